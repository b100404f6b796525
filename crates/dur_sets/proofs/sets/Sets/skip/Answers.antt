use Rattle.std.proofs.Common.{◌∙◌, refl}
use Rattle.dur_base.specs.declared.entry.Entry.TheVariants.{Skip as Skips}
use Rattle.dur_sets.proofs.Places.{put-open, broken-skip}
use Rattle.dur_sets.proofs.sets.Sets.skip.Goals as goal

pub returns-clause-stands : goal.returns-clause-stands
returns-clause-stands c = λ h line moment from to stand history at.
    c.put.ensures ∙ put-open h (Skips moment line.guid from to) c.args.writer line c.args.self.now.sets.items _ stand history at refl (broken-skip h moment from to line.guid)

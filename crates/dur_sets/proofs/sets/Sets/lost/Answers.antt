use Rattle.std.proofs.Common.{◌∙◌, refl}
use Rattle.dur_base.specs.declared.entry.Entry.TheVariants.{Lost as Loses}
use Rattle.dur_sets.proofs.Places.{put-open, broken-lost}
use Rattle.dur_sets.proofs.sets.Sets.lost.Goals as goal

pub returns-clause-stands : goal.returns-clause-stands
returns-clause-stands c = λ h line moment stand history at.
    c.put.ensures ∙ put-open h (Loses moment line.guid) c.args.writer line c.args.self.now.sets.items _ stand history at refl (broken-lost h moment line.guid)

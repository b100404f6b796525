use Rattle.std.proofs.Common.{List, Option, None, ap, ◌∙◌}
use Rattle.std.specs.Prelude.{slice_get, unwrap_or}
use Rattle.dur_sets.specs.declared.effect.Open.{Open}
use Rattle.dur_sets.specs.Answers.{answer_of}
use Rattle.dur_sets.proofs.Places.{told-at}
use Rattle.dur_sets.proofs.sets.Sets.effect.Goals as goal

pub returns : goal.returns
returns c = λ h line stand history at number.
    told-at h c.args.writer line c.args.self.now.sets.items c.args.number c.args.set c.effect_of.result stand history at number
    (c.effect_of.ensures ∙ ap (λ o. answer_of o c.args.number c.args.set) (c.open_at.ensures ∙ ap (λ (l : List (Option Open)). unwrap_or (slice_get l c.args.writer) None) c.deref.ensures.value))

use Rattle.std.proofs.Common.{List, Option, None, ap, ◌∙◌, refl}
use Rattle.std.specs.Prelude.{slice_get, unwrap_or}
use Rattle.dur_sets.specs.declared.effect.Open.{Open}
use Rattle.dur_base.specs.declared.entry.Entry.TheVariants.{Took as Takes}
use Rattle.dur_sets.specs.Answers.{answer_of, open_by}
use Rattle.dur_sets.proofs.Places.{put-open, told-at, took-at}
use Rattle.dur_sets.proofs.sets.Sets.step.Goals as goal

pub returns-clause-tells : goal.returns-clause-tells
returns-clause-tells c = λ h line stand history at number.
    told-at h c.args.writer line c.args.self.now.sets.items c.args.number c.args.set c.effect_of.result stand history at number
    (c.effect_of.ensures ∙ ap (λ o. answer_of o c.args.number c.args.set) (c.open_at-kept.ensures ∙ ap (λ (l : List (Option Open)). unwrap_or (slice_get l c.args.writer) None) c.deref.ensures.value))

pub returns-clause-stands : goal.returns-clause-stands
returns-clause-stands c = λ h line moment s stand history at number set.
    c.put.ensures
    ∙ put-open h (Takes moment line.guid c.args.number s) c.args.writer line c.args.self.now.sets.items _ stand history at refl
    (c.open_after.ensures ∙ ap (λ o. open_by o c.args.number c.args.set) (c.open_at-kept.ensures ∙ ap (λ (l : List (Option Open)). unwrap_or (slice_get l c.args.writer) None) c.deref.ensures.value)
    ∙ took-at h c.args.writer line c.args.self.now.sets.items moment c.args.number s c.args.set stand history at number set)

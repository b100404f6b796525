use Rattle.std.proofs.Common.{ap, sym, ◌∙◌, subst, List, ◌≤◌, length}
use Rattle.dur_view.specs.declared.data.View.{View}
use Rattle.dur_instances.specs.Trimmed.{Trimmed}
use Rattle.dur_store.specs.declared.writer.Writer.{Writer}
use Rattle.std.proofs.Common.{map}
use Rattle.dur_store.specs.Parts.{line_of, AreTopics}
use Rattle.dur_store.proofs.Wholes.{topics-few, whole-view}
use Rattle.dur_store.proofs.store.Store.whole.Goals as goal

pub parts_of-requires-clause-few : goal.parts_of-requires-clause-few
parts_of-requires-clause-few c =
    subst (λ (l : List Trimmed). length l ≤ 1024) (sym c.deref-2.ensures.value) (topics-few _ c.requires.0 c.requires.1.history c.requires.1.count)

pub returns : goal.returns
returns c = λ h keeps.
    whole-view h c.args.moment (length c.deref-2.result.now) _ _ _ _
    (ap (λ (v : View). v.topics) (c.in_ok-outline.ensures ∙ keeps.outline))
    (c.in_ok-writers.ensures ∙ ap (λ (l : List Writer). map line_of l) c.deref.ensures.value ∙ keeps.writers)
    (ap length c.deref-2.ensures.value ∙ keeps.count)
    (c.in_ok-instances.ensures h (subst (λ (l : List Trimmed). AreTopics l h) (sym c.deref-2.ensures.value) keeps.topics))

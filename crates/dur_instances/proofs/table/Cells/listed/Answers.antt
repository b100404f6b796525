use Rattle.std.proofs.Common.{List, rules, ◌∙◌, subst}
use Rattle.std.specs.List.Sorted.{IsStableByKey}
use Rattle.std.proofs.lemmas.List.Sorted.{answers_always}
use Rattle.dur_view.specs.Fates.{key_cmp}
use Rattle.dur_view.specs.Sound.{Ascending}
use Rattle.dur_instances.specs.declared.cells.Cell.{Cell}
use Rattle.dur_instances.specs.Layout.{keys_of}
use Rattle.dur_instances.proofs.ByKey.{order-by}
use Rattle.dur_instances.proofs.SortedCells.{sorted-by}
use Rattle.dur_instances.proofs.table.Cells.listed.Goals as goal

pub returns-in_err-cells-clause-order : goal.returns-in_err-cells-clause-order
returns-in_err-cells-clause-order c = subst (λ (l : List Cell). Ascending (keys_of l)) c.entries.ensures.list (order-by c.entries.result)

pub returns-in-Ok-clause-order : goal.returns-in-Ok-clause-order
returns-in-Ok-clause-order c = subst (λ (l : List Cell). Ascending (keys_of l)) c.entries.ensures.list (order-by c.entries.result)

pub returns-in-Err-clause-order : goal.returns-in-Err-clause-order
returns-in-Err-clause-order c = subst (λ (l : List Cell). Ascending (keys_of l)) c.entries.ensures.list (order-by c.entries.result)

pub returns-in-Ok-clause-list : goal.returns-in-Ok-clause-list
returns-in-Ok-clause-list c =
    let stable = c.in-Ok.ensures.stable (λ (x : Cell). x.key) (answers_always _ _ _ (λ f a r f' call. search rules)) in
    let sorted = c.in-Ok.ensures.sorted (λ (x : Cell). x.key) (answers_always _ _ _ (λ f a r f' call. search rules)) in
    sorted-by c.entries.result c.sort_by_key.new.self.items c.entries.ensures.distinct sorted
    (subst (λ (l : List Cell). IsStableByKey (λ x. x.key) key_cmp l c.sort_by_key.new.self.items) c.in_ok-cells.ensures stable)
    ∙ c.entries.ensures.list

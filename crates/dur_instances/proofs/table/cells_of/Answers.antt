use Rattle.std.proofs.Common.{sym, ap, ◌∙◌, arith}
use Rattle.dur_instances.proofs.ByKey.{cells-step}
use Rattle.dur_instances.proofs.table.cells_of.Goals as goal
use Rattle.dur_instances.proofs.table.cells_of.Goals.{in-Some+in_ok-push-in-Some, in-None}

pub loop-i-preserved : goal.loop-i-preserved
loop-i-preserved c =
    elim c.match-get_index.branch [
      | in-Some+in_ok-push-in-Some w ↦ cells-step _ _ _ _ _ _ (sym w.in-Some.ensures.entry) w.cell_of.ensures c.loop-i.invariant (ap (λ v. v.items) w.cells-is ∙ w.in_ok-push-in-Some.ensures)
      | in-None w ↦ let found = w.in-None.ensures.found.1 (omega arith) in absurd (cc)
    ]

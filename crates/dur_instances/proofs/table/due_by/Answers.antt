use Rattle.std.proofs.Common.{map, sym, ap, ◌∙◌, arith}
use Rattle.std.specs.Prelude.{min}
use Rattle.dur_instances.specs.Due.{due_cells}
use Rattle.dur_instances.specs.Table.{cell_by}
use Rattle.dur_instances.proofs.BeforeDue.{min-most, cells-most}
use Rattle.dur_instances.proofs.ByKey.{due-step}
use Rattle.dur_instances.proofs.table.due_by.Goals as goal
use Rattle.dur_instances.proofs.table.due_by.Goals.{in-Some, in-None}

pub loop-i-init : goal.loop-i-init
loop-i-init c =
    let cells = map cell_by c.args.entries.now in
    record { due = min-most (due_cells c.args.longest cells) (cells-most c.args.longest cells); most = omega arith }

pub loop-i-preserved : goal.loop-i-preserved
loop-i-preserved c =
    elim c.match-get_index.branch [
      | in-Some w ↦
          let next = w.due-is ∙ w.earlier-due.ensures ∙ ap (λ n. min c.loop-i.due n) w.purged_from.ensures in
          record { due = due-step _ _ _ _ _ _ (sym w.in-Some.ensures.entry) c.loop-i.invariant.due next; most = omega arith }
      | in-None w ↦ let found = w.in-None.ensures.found.1 (omega arith) in absurd (cc)
    ]

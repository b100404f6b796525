use Rattle.std.proofs.Common.{◌<◌, length, ap, ◌∙◌, arith}
use Rattle.std.proofs.lemmas.Grind.{common_steps}
use Rattle.dur_instances.specs.declared.cells.Cell.{Cell}
use Rattle.dur_instances.specs.Layout.{with_cell}
use Rattle.dur_instances.proofs.CellLists.{get-at}
use Rattle.dur_instances.proofs.ByKey.{take-with}
use Rattle.dur_instances.proofs.table.Cells.of_list.Goals as goal

pub loop-cell-preserved : goal.loop-cell-preserved
loop-cell-preserved c =
    let x : Cell = c.cell-item.result in
    let at = c.loop-cell.cell-index in
    let list = c.args.list.now in
    let lt : at < length list = grind (arith, common_steps) in
    let room = c.put.ensures.room in
    let was = c.loop-cell.invariant.room in
    record {
      list = c.put.ensures.list ∙ ap (with_cell x) c.loop-cell.invariant.list ∙ take-with list at x c.requires (get-at list at x lt c.cell-item.is);
      room = omega arith;
    }

use Rattle.std.proofs.Common.{◌≡◌, ◌+◌, ◌≤◌, length, take}
use Rattle.dur_instances.proofs.table.Cells.of_list.Given as goal

abbrev pub invariant-loop-cell : goal.invariant-loop-cell
invariant-loop-cell l = record {
  list : l.cells.list ≡ take l.cell-index l.list;
  room : length l.list ≤ l.cells.room + l.cell-index;
}

use Rattle.std.proofs.Common.{◌≡◌, ◌++◌, map, drop}
use Rattle.dur_instances.specs.Table.{cell_by}
use Rattle.dur_instances.proofs.table.cells_of.Given as goal

abbrev pub invariant-loop-i : goal.invariant-loop-i
invariant-loop-i l = map cell_by l.entries ≡ l.cells.items ++ map cell_by (drop l.i l.entries)

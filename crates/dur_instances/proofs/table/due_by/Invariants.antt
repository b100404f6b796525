use Rattle.std.proofs.Common.{◌≡◌, ◌≤◌, map, drop}
use Rattle.std.specs.Prelude.{min}
use Rattle.dur_instances.specs.Due.{last_moment, due_cells}
use Rattle.dur_instances.specs.Table.{cell_by}
use Rattle.dur_instances.proofs.table.due_by.Given as goal

abbrev pub invariant-loop-i : goal.invariant-loop-i
invariant-loop-i l = record {
  due : due_cells l.longest (map cell_by l.entries) ≡ min l.due (due_cells l.longest (map cell_by (drop l.i l.entries)));
  most : l.due ≤ last_moment;
}

use Rattle.std.proofs.Common.{◌≡◌, ◌≤◌, ◌-◌, ◌^◌, ℕ, List, length}
use Rattle.std.specs.Io.KnownBytes.{Consumes}
use Rattle.dur_qos.specs.Reading.{start, after, taken}
use Rattle.dur_rerun.proofs.input.plan.open_plan.Given as goal

abbrev pub invariant-pieces : goal.invariant-pieces
invariant-pieces g l = record {
  seen : List ℕ;
  consumed : Consumes (g.S.Source.left l.fn.input) (g.S.Source.left l.input) seen;
  reads : l.reader ≡ after start seen;
  size : l.before ≡ length seen;
  all : taken start seen ≡ length seen;
  later : g.S.Source.faults l.fn.input ≤ g.S.Source.faults l.input;
}

abbrev pub decreases-pieces : goal.decreases-pieces
decreases-pieces g l = 2 ^ 40 - l.before

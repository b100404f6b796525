use Rattle.std.proofs.Common.{◌≡◌, ◌≤◌, take}
use Rattle.std.specs.List.{sum_by}
use Rattle.rel_writer.specs.Room.{brings}
use Rattle.rel_writer.proofs.hearing.brought.Given as goal

abbrev pub invariant-loop-fact : goal.invariant-loop-fact
invariant-loop-fact l = record {
  so_far : l.count ≡ sum_by brings (take l.fact-index l.facts);
  few : l.count ≤ l.fact-index;
}

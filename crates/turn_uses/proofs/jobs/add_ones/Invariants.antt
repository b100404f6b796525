use Rattle.std.proofs.Common.{◌≡◌, ◌++◌, replicate}
use Rattle.dur_turn.specs.Passes.{IsPassOf}
use Rattle.turn_uses.specs.declared.counter.Event.TheVariants.{Added}
use Rattle.turn_uses.proofs.jobs.add_ones.Given as goal

abbrev pub invariant-loop : goal.invariant-loop
invariant-loop g l = record {
  own : IsPassOf l.turn l.pass;
  mine : l.pass.mine ≡ l.initial.pass.mine ++ replicate l.counter (Added 1);
  number : l.pass.number ≡ l.initial.pass.number;
}

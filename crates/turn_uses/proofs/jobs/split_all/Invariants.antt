use Rattle.std.proofs.Common.{◌≡◌, ◌+◌, [], length}
use Rattle.std.specs.List.{All}
use Rattle.dur_turn.specs.Passes.{IsPassOf, IsRootOf}
use Rattle.turn_uses.proofs.jobs.split_all.Given as goal

abbrev pub invariant-loop : goal.invariant-loop
invariant-loop l = record {
  own : IsRootOf l.turn l.root;
  long : length l.jobs.items ≡ l.counter;
  each : All (λ j. IsPassOf l.turn j.pass × (j.pass.mine ≡ []) × (j.times ≡ l.times)) l.jobs.items;
  out : l.root.out ≡ l.initial.root.out + l.counter;
  joined : l.root.joined ≡ l.initial.root.joined;
}

use Rattle.std.proofs.Common.{◌≡◌, ◌++◌, ◌-◌, length, map}
use Rattle.std.specs.List.{All}
use Rattle.std.specs.Vec.Iter.{into_iter_items, into_iter_len}
use Rattle.dur_turn.specs.Passes.{IsPassOf, IsRootOf}
use Rattle.turn_uses.specs.Jobs.{kept_of}
use Rattle.turn_uses.proofs.jobs.join_all.Given as goal

abbrev pub invariant-loop-job : goal.invariant-loop-job
invariant-loop-job l = record {
  own : IsRootOf l.turn l.root;
  each : All (λ j. IsPassOf l.turn j.pass) (into_iter_items l.job-iterator);
  order : l.yielded ++ into_iter_items l.job-iterator ≡ into_iter_items l.initial.job-iterator;
  len : into_iter_len l.job-iterator ≡ length (into_iter_items l.job-iterator);
  joined : l.root.joined ≡ l.initial.root.joined ++ map (λ j. kept_of j.pass) l.yielded;
  out : l.root.out ≡ l.initial.root.out - length l.yielded;
}

use Rattle.std.proofs.Common.{◌≡◌, ◌++◌, ℕ, List as Sequence, length}
use Rattle.std.specs.List.{flat_map}
use Rattle.dur_qos.specs.Reading.{start, after}
use Rattle.dur_qos.proofs.whole.read_plan.Given as goal

abbrev pub invariant-loop-rest : goal.invariant-loop-rest
invariant-loop-rest l = record {
  seen : Sequence ℕ;
  reads : l.reader ≡ after start seen;
  all : seen ++ flat_map (λ x. x.items) l.rest ≡ flat_map (λ x. x.items) l.pieces;
}

abbrev pub decreases-loop-rest : goal.decreases-loop-rest
decreases-loop-rest l = length l.rest

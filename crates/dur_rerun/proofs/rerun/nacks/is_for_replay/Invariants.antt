use Rattle.std.proofs.Common.{ℕ, ◌<◌}
use Rattle.dur_rerun.specs.Rerun.Replies.{IsFor}
use Rattle.dur_rerun.proofs.rerun.nacks.is_for_replay.Given as goal

-- it is for none of the first ones
abbrev pub invariant-loop-at : goal.invariant-loop-at
invariant-loop-at l = (k : ℕ) → k < l.at → IsFor l.plan l.nack k → ⊥

use Rattle.std.proofs.Common.{◌≡◌, ◌≤◌, ◌<◌, ◌-◌, ◌*◌, ℕ, true, length}
use Rattle.rtps_frag.specs.Marks.{mark_at}
use Rattle.rtps_frag.proofs.arrived.first_unset.Given as goal

abbrev pub invariant-loop-q : goal.invariant-loop-q
invariant-loop-q l = record { set : (k : ℕ) → k < 64 * l.q → mark_at l.words k ≡ true; within : l.q ≤ length l.words }

abbrev pub decreases-loop-q : goal.decreases-loop-q
decreases-loop-q l = length l.words - l.q

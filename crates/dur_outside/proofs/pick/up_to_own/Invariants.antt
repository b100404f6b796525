use Rattle.std.proofs.Common.{◌≡◌, ℕ, ◌≤◌, List, length, reverse}
use Rattle.dur_outside.specs.Picked.{pick_of}
use Rattle.dur_outside.proofs.pick.up_to_own.Given as goal

abbrev pub invariant-loop-change : goal.invariant-loop-change
invariant-loop-change l = record {
  same : (pick : ℕ) (x : List ℕ) → pick_of (reverse l.fn.changes) l.file pick x ≡ pick_of (reverse l.own) l.file pick x;
  shorter : length l.own ≤ length l.fn.changes;
}

abbrev pub decreases-loop-change : goal.decreases-loop-change
decreases-loop-change l = length l.own

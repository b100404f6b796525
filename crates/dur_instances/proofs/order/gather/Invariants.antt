use Rattle.std.proofs.Common.{◌≡◌, ◌+◌, ◌≤◌, ◌++◌, length, drop}
use Rattle.dur_instances.specs.Places.{kept_in}
use Rattle.dur_instances.proofs.order.gather.Given as goal

-- what is added, and what is left to add, is all
abbrev pub invariant-loop-place : goal.invariant-loop-place
invariant-loop-place l = record {
  items : l.initial.changes.items ++ kept_in l.places ≡ l.changes.items ++ kept_in (drop l.place-index l.places);
  room : l.initial.changes.room + length (kept_in (drop l.place-index l.places)) ≤ l.changes.room + length (kept_in l.places);
}

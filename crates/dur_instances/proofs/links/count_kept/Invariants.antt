use Rattle.std.proofs.Common.{◌≡◌, ◌+◌, ◌≤◌, length, drop}
use Rattle.dur_instances.specs.Places.{kept_in}
use Rattle.dur_instances.proofs.links.count_kept.Given as goal

abbrev pub invariant-loop-place : goal.invariant-loop-place
invariant-loop-place l = record {
  count : length (kept_in l.places) ≡ l.count + length (kept_in (drop l.place-index l.places));
  bound : l.count ≤ l.place-index;
}

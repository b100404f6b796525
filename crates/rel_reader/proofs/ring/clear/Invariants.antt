use Rattle.std.proofs.Common.{◌≡◌, ℕ, ◌+◌, ◌<◌, ◌≤◌, length}
use Rattle.rel_reader.specs.declared.known.Known.TheVariants.{Unknown}
use Rattle.rel_reader.specs.Places.{place_at}
use Rattle.rel_reader.proofs.ring.clear.Given as goal

abbrev pub invariant-loop-k : goal.invariant-loop-k
invariant-loop-k l = record {
  length : length l.places ≡ 256;
  empty : (k : ℕ) → l.from ≤ k → k < l.k → place_at l.places k ≡ Unknown;
  rest : (k : ℕ) → l.k ≤ k → k < l.from + 256 → place_at l.places k ≡ place_at l.fn.places k;
}

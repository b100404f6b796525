use Rattle.std.proofs.Common.{◌≡◌, ℕ, length}
use Rattle.std.specs.Prelude.{slice_index_or}
use Rattle.rel_reader.specs.declared.known.Known.TheVariants.{Unknown}
use Rattle.rel_reader.proofs.ring.empty.Given as goal

abbrev pub invariant-loop-i : goal.invariant-loop-i
invariant-loop-i l = record {
  length : length l.places.items ≡ l._i;
  empty : (k : ℕ) → slice_index_or l.places.items k Unknown ≡ Unknown;
}

-- The ring of places.
use Rattle.std.proofs.Common.{◌≡◌, ◌≢◌, ℕ, ◌+◌, ◌-◌, ◌%◌, ◌<◌, ◌≤◌, min, List, length, refl, ap, ◌∙◌, arith, inl, inr, get_or-set_same, get_or-set_other}
use Rattle.std.specs.Prelude.{slice_index_or, slice_set}
use Rattle.std.proofs.lemmas.Bool.{cases_lt}
use Rattle.rel_reader.specs.declared.known.Known.{Known}
use Rattle.rel_reader.specs.declared.known.Known.TheVariants.{Unknown}
use Rattle.rel_reader.specs.Places.{place_at}

pub same_place : (places : List Known) (k j : ℕ) → k % 256 ≡ j % 256 → place_at places k ≡ place_at places j
same_place places k j e = ap (λ r. slice_index_or places r Unknown) e

pub put_same : (places : List Known) (k : ℕ) (x : Known) → length places ≡ 256 → place_at (slice_set places (k % 256) x) k ≡ x
put_same places k x n = get_or-set_same places (k % 256) x Unknown (omega arith)

pub put_other : (places : List Known) (k j : ℕ) (x : Known) → j % 256 ≢ k % 256 → place_at (slice_set places (k % 256) x) j ≡ place_at places j
put_other places k j x ne = get_or-set_other places (k % 256) (j % 256) x Unknown ne

-- the number of the old window whose place is that of k
cleared_at : (old places : List Known) (from to top upto k j : ℕ) → j ≡ from + (k - from) % 256 → min (min to (from + 256)) top ≤ upto
    → ((i : ℕ) → from ≤ i → i < upto → place_at places i ≡ Unknown)
    → ((i : ℕ) → upto ≤ i → i < from + 256 → place_at places i ≡ place_at old i)
    → ((i : ℕ) → from ≤ i → top ≤ i → i < from + 256 → place_at old i ≡ Unknown)
    → to ≤ k → from + 256 ≤ k → k < to + 256 → place_at places k ≡ Unknown
cleared_at old places from to top upto k j is past empty rest above after far near =
    same_place places k j (omega arith) ∙ elim (cases_lt j upto) [
      | inl below ↦ empty j (omega arith) below
      | inr behind ↦ rest j behind (omega arith) ∙ above j (omega arith) (omega arith) (omega arith)
    ]

pub cleared : (old places : List Known) (from to top upto : ℕ) → min (min to (from + 256)) top ≤ upto
    → ((i : ℕ) → from ≤ i → i < upto → place_at places i ≡ Unknown)
    → ((i : ℕ) → upto ≤ i → i < from + 256 → place_at places i ≡ place_at old i)
    → ((i : ℕ) → from ≤ i → top ≤ i → i < from + 256 → place_at old i ≡ Unknown)
    → (k : ℕ) → to ≤ k → from + 256 ≤ k → k < to + 256 → place_at places k ≡ Unknown
cleared old places from to top upto past empty rest above k after far near =
    cleared_at old places from to top upto k _ refl past empty rest above after far near

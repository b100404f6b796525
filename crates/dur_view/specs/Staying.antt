-- Which items of a list stay, and their places among those that do.
use Rattle.std.specs.Prelude.{◌≡◌, ℕ, ◌+◌, Bool, false, if◌then◌else◌, List, [], ◌∷◌, slice_get, unwrap_or}
use Rattle.dur_view.specs.declared.staying.Staying.{Staying}
use Rattle.dur_view.specs.Persistent.{passes_at, place_among}

-- how many stay before each item and in all, where so many stay before the first
abbrev pub counts_from : ℕ → List Bool → List ℕ
counts_from n [] = []
counts_from n (stays ∷ rest) = n ∷ counts_from (if stays then n + 1 else n) rest

abbrev pub total_from : ℕ → List Bool → ℕ
total_from n [] = n
total_from n (stays ∷ rest) = total_from (if stays then n + 1 else n) rest

abbrev pub counted : List Bool → Staying
counted stays = record { stays = stays; counts = counts_from 0 stays; count = total_from 0 stays }

-- what is said of the item at a place
abbrev pub stays_at : Staying → ℕ → Bool
stays_at s i = unwrap_or (slice_get s.stays i) false

abbrev pub place_at : Staying → ℕ → ℕ
place_at s i = unwrap_or (slice_get s.counts i) s.count

-- those stay that pass the test
pub record AreStaying {X : Type 0} (test : X → Bool) (xs : List X) (s : Staying) : Type 0 where
  pub stays : (i : ℕ) → stays_at s i ≡ passes_at test xs i
  pub place : (i : ℕ) → place_at s i ≡ place_among test xs i

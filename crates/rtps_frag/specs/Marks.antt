-- Which fragments came, a bit each.
use Rattle.std.specs.Prelude.{◌≡◌, ℕ, ◌/◌, ◌%◌, ◌<◌, ◌≤◌, Bool, true, false, List, length, map, ◌==◌, get_or}
use Rattle.std.specs.List.{range_with_len}
use Rattle.std.specs.Int.{bit_at}

-- bit k of the words, counted from the lowest bit of the first
abbrev pub mark_at : List ℕ → ℕ → Bool
mark_at words k = bit_at (get_or words (k / 64) 0) (k % 64) == 1

-- the first n bits of the words
unfoldable pub marks_in : List ℕ → ℕ → List Bool
marks_in words n = map (mark_at words) (range_with_len 0 n)

-- the first bit that is not set
pub record IsFirstUnset (words : List ℕ) (at : ℕ) : Type 0 where
  pub unset : mark_at words at ≡ false
  pub least : (k : ℕ) → k < at → mark_at words k ≡ true

-- a bit for each fragment of the longest sample, whose fragments have an octet each
pub record HasRoom (words : List ℕ) (count : ℕ) : Type 0 where
  pub words_are : length words ≡ 1021
  pub within : count ≤ 65344

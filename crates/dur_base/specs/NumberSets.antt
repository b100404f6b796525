-- Sets of numbers from a base on (DDSI-RTPS 8.3.5.5): a base, and a bit for each of at most 256 numbers.
use Rattle.std.specs.Prelude.{length, slice_index_or, ◌^◌, ◌<◌}
use Rattle.std.specs.Prelude.{◌≡◌, ℕ, ◌+◌, ◌-◌, ◌≤◌, ◌/◌, ◌%◌, ◌==◌, ◌&&◌, ◌⊎◌, Bool, true, false, nat_lt, nat_le, List, [], ◌∷◌, slice_index, slice_index_or, if◌then◌else◌}
use Rattle.std.specs.Int.{bit_at, w32, trailing_zeros}

-- what contracts see of a set
pub record NumberSet : Type 0 where
  pub base : ℕ
  pub count : ℕ
  pub words : List ℕ

-- whether bit i is set, counted from the high end of the first word
abbrev pub has_bit : List ℕ → ℕ → Bool
has_bit words i = bit_at (slice_index words (i / 32)) (31 - i % 32) == 1

-- no bit is set from i on
abbrev pub IsClearFrom : List ℕ → ℕ → Type 0
IsClearFrom words i = (j : ℕ) → i ≤ j → has_bit words j ≡ false

-- the count is the place behind the last bit that is set, or 0
pub record IsNormal (count : ℕ) (words : List ℕ) : Type 0 where
  pub within : count ≤ 256
  pub clear : IsClearFrom words count
  pub reaches : (count ≡ 0) ⊎ (has_bit words (count - 1) ≡ true)

-- eight words of 32 bits, in the normal form
pub record IsNumberSet (set : NumberSet) : Type 0 where
  pub eight : length set.words ≡ 8
  pub words : (i : ℕ) → slice_index_or set.words i 0 < 2 ^ 32
  pub normal : IsNormal set.count set.words

-- whether the number is in the set
abbrev pub names : NumberSet → ℕ → Bool
names set k = nat_le set.base k && (nat_lt (k - set.base) set.count && has_bit set.words (k - set.base))

-- The place behind the last bit that is set, or 0. Bit 0 of a word is its highest one.
abbrev pub width_of : List ℕ → ℕ
width_of [] = 0
width_of (word ∷ words) =
    if width_of words == 0 then (if word == 0 then 0 else 32 - trailing_zeros w32 word) else width_of words + 32

-- the set whose bits these words have
abbrev pub set_of : ℕ → List ℕ → NumberSet
set_of base words = record { base = base; count = width_of words; words = words }

abbrev pub empty_set : ℕ → NumberSet
empty_set base = record { base = base; count = 0; words = 0 ∷ 0 ∷ 0 ∷ 0 ∷ 0 ∷ 0 ∷ 0 ∷ 0 ∷ [] }

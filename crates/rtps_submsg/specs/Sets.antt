-- The words of a set of numbers, as they stand in a body (DDSI-RTPS 9.4.2.6).
use Rattle.std.specs.Prelude.{ℕ, ◌-◌, ◌*◌, ◌/◌, ◌%◌, ◌^◌, ◌==◌, Bool, List, [], ◌∷◌, take, drop, nat_lt, nat_le, if◌then◌else◌}
use Rattle.std.specs.Int.{bit_at, w32}
use Rattle.dur_base.specs.Fields.{number}

-- the highest k bits of a word
unfoldable pub clipped : ℕ → ℕ → ℕ
clipped k word = if nat_le 32 k then word else word - word % 2 ^ (32 - k)

-- word i of that many bits: the bits past them are 0
unfoldable pub word_at : Bool → ℕ → List ℕ → ℕ → ℕ
word_at little bits octets i = if nat_lt (32 * i) bits then clipped (bits - 32 * i) (number little w32 (take 4 (drop (4 * i) octets))) else 0

abbrev pub words_of : Bool → ℕ → List ℕ → List ℕ
words_of little bits octets =
    word_at little bits octets 0 ∷ word_at little bits octets 1 ∷ word_at little bits octets 2 ∷ word_at little bits octets 3
    ∷ word_at little bits octets 4 ∷ word_at little bits octets 5 ∷ word_at little bits octets 6 ∷ word_at little bits octets 7 ∷ []

-- Bit i as it stands in the octets: the mask 1 << (31 - i % 32) of word i / 32.
abbrev pub bit_in : Bool → List ℕ → ℕ → Bool
bit_in little octets i = bit_at (number little w32 (take 4 (drop (4 * (i / 32)) octets))) (31 - i % 32) == 1

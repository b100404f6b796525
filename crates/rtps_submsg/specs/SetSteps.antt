-- The steps that the reader of a set takes. They are proved to find what the grammar says.
use Rattle.std.specs.Prelude.{ℕ, ◌+◌, ◌*◌, ◌/◌, ◌%◌, ◌^◌, Bool, List, [], length, take, drop, Result, Ok, Err, nat_lt, nat_le, ◌==◌, ◌&&◌, ◌||◌, if◌then◌else◌}
use Rattle.dur_base.specs.NumberSets.{NumberSet, set_of}
use Rattle.rtps_submsg.specs.declared.field.Broken.{Broken}
use Rattle.rtps_submsg.specs.declared.sub.SubKind.TheVariants.{Cut, BadSet}
use Rattle.rtps_submsg.specs.FieldSteps.{◌>>=◌, breaks, u32_at, sequence_at}
use Rattle.rtps_submsg.specs.Sets.{words_of}

-- the octets of as many words as hold that many bits; each word is a field
unfoldable pub words_at : ℕ → List ℕ → Result (List ℕ × List ℕ) Broken
words_at bits rest =
    if nat_lt (length rest) (4 * ((bits + 31) / 32)) then Err (record { left = length rest % 4; kind = Cut })
    else Ok (take (4 * ((bits + 31) / 32)) rest, drop (4 * ((bits + 31) / 32)) rest)

-- a base from 1 on; an ACKNACK may have base 0
unfoldable pub base_at : Bool → Bool → List ℕ → Result (ℕ × List ℕ) Broken
base_at little is_ack rest = do
  base ← sequence_at little rest
  if nat_le 1 base.0 && nat_lt base.0 (2 ^ 63) || is_ack && base.0 == 0 then Ok base else breaks rest BadSet

-- the words behind base and numBits, where these are good
abbrev pub bits_at : Bool → ℕ → ℕ → List ℕ → List ℕ → List ℕ → Result (NumberSet × List ℕ) Broken
bits_at little base bits at_base at_bits rest =
    if base == 0 then (if bits == 0 then Ok (set_of 1 (words_of little 0 []), rest) else breaks at_base BadSet)
    else if nat_lt 256 bits then breaks at_bits BadSet
    else (words_at bits rest >>= λ words. Ok (set_of base (words_of little bits words.0), words.1))

-- base 8, numBits 4 and at most 256, words; base 0 without bits reads as base 1
unfoldable pub set_at : Bool → Bool → List ℕ → Result (NumberSet × List ℕ) Broken
set_at little is_ack rest = do
  base ← base_at little is_ack rest
  bits ← u32_at little base.1
  bits_at little base.0 bits.0 rest base.1 bits.1

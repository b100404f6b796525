-- Hex digits and texts as the values of options.
use Rattle.std.proofs.Common.{◌≡◌, ◌==◌, ◌<◌, ◌/◌, ℕ, Bool, true, false, List, [], ◌∷◌, length, slice_index, Option, Some, None, Result, Ok, Err, refl, sym, ap, subst, ◌∙◌, arith}
use Rattle.std.specs.Prelude.{MatchResult}
use Rattle.std.proofs.lemmas.Bool.Decides.{nat_tests}
use Rattle.hex.specs.Hex.{IsBytes, decode_of, decode_sized, encode_lower, encode_with, hex_digit_value, lower_digits}
use Rattle.hex.specs.declared.error.FromHexError.{FromHexError}
use Rattle.hex.proofs.HexLemmas.{IsDigits-lower_digits, decode_of-encode_lower, decode_of-same, decode_sized-encode_lower}
use Rattle.clap.specs.Walk.{Text}
use Rattle.durability.specs.Options.{IsHex, IsPlain, IsText}

digit_not_dash : (x d : ℕ) → hex_digit_value x ≡ Some d → (x == 45) ≡ false
digit_not_dash x d h = go (x == 45) refl where
  go : (b : Bool) → (x == 45) ≡ b → b ≡ false
  go true e =
      let same : x ≡ 45 = grind (arith, nat_tests) in
      let none : hex_digit_value 45 ≡ Some d = subst (λ (n : ℕ). hex_digit_value n ≡ Some d) same h in
      absurd cc
  go false e = refl

-- hex digits begin with no dash
pub encoded_plain : (octets : List ℕ) → IsBytes octets → IsPlain (encode_lower octets)
unfolding encode_with
encoded_plain [] h = tt
encoded_plain (b ∷ rest) h =
    let small : b < 256 = h 0 in
    digit_not_dash (slice_index lower_digits (b / 16)) (b / 16) (IsDigits-lower_digits (b / 16) (omega arith))

pub hex_plain : (size : ℕ) (o : Option Text) (octets : List ℕ) → IsHex size o octets → (v : Text) → o ≡ Some v → IsPlain v
hex_plain size None octets h v is = absurd h
hex_plain size (Some t) octets h v is = let same : t ≡ v = cc in subst IsPlain (sym h.2 ∙ same) (encoded_plain octets h.1)

pub hex_once : (size : ℕ) (o : Option Text) (a b : List ℕ) → IsHex size o a → IsHex size o b → a ≡ b
hex_once size None a b h k = absurd h
hex_once size (Some t) a b h k =
    let same : encode_lower a ≡ encode_lower b = sym h.2 ∙ k.2 in
    decode_of-same (encode_lower b) a b (subst (λ (s : Text). decode_of s ≡ Ok a) same (decode_of-encode_lower a h.1)) (decode_of-encode_lower b k.1)

pub text_plain : (o : Option Text) (t : Text) → IsText o t → (v : Text) → o ≡ Some v → IsPlain v
text_plain None t h v is = absurd h
text_plain (Some x) t h v is = let same : x ≡ v = cc in subst IsPlain (sym h.0 ∙ same) h.2

pub text_once : (o : Option Text) (a b : Text) → IsText o a → IsText o b → a ≡ b
text_once None a b h k = absurd h
text_once (Some x) a b h k = sym h.0 ∙ k.0

-- octets that a text spells are what decoding it writes
pub decodes_so : (text octets out : List ℕ) (n : ℕ) (r : Result Unit FromHexError) → length octets ≡ n → IsBytes octets → text ≡ encode_lower octets
    → MatchResult (decode_sized text n) (λ bytes. (r ≡ Ok tt) × (out ≡ bytes)) (λ e. r ≡ Err e) → (r ≡ Ok tt) × (out ≡ octets)
decodes_so text octets out n r size bytes is h =
    let decoded : decode_sized text n ≡ Ok octets = ap (λ (t : List ℕ). decode_sized t n) is ∙ decode_sized-encode_lower octets n size bytes in
    rw decoded at h

-- Which bits of a set are read.
use Rattle.std.proofs.Common.{◌≡◌, ℕ, zero, suc, ◌+◌, ◌-◌, ◌*◌, ◌/◌, ◌%◌, ◌^◌, ◌<◌, ◌≤◌, ◌==◌, Bool, List, take, drop, get_or, refl, sym, ap, ◌∙◌, inl, inr, arith, mul_comm}
use Rattle.std.specs.Prelude.{nat_lt, ◌&&◌}
use Rattle.std.specs.Int.{bit_at, w32}
use Rattle.std.proofs.Math.Nat.{mod-add-div, mod-lt}
use Rattle.std.proofs.lemmas.Bool.{cases_lt, lt-ltb, le-ltb, le-leb, lt-leb}
use Rattle.std.proofs.lemmas.Nat.{pow_pos}
use Rattle.std.proofs.lemmas.Nat.Bits.{bit_at-zero, bit_at_cat_low, bit_at_cat_high}
use Rattle.dur_base.specs.Fields.{number}
use Rattle.dur_base.specs.NumberSets.{has_bit}
use Rattle.rtps_submsg.specs.Sets.{clipped, word_at, words_of, bit_in}

-- a word as its high bits and its low ones
high_low : (m w : ℕ) → w / 2 ^ m * 2 ^ m + w % 2 ^ m ≡ w
high_low m w = omega (arith, mod-add-div w (2 ^ m), mul_comm (2 ^ m) (w / 2 ^ m))

clipped_bit : (k w b : ℕ) → b < 32 → 31 - b < k → bit_at (clipped k w) b ≡ bit_at w b
unfolding clipped
clipped_bit k w b small inside =
    elim (cases_lt k 32) [
      | inr all ↦ rw (le-leb 32 k all) refl
      | inl some ↦
          let m = 32 - k in
          let a = w / 2 ^ m in
          let high : w - w % 2 ^ m ≡ a * 2 ^ m + 0 = omega (arith, high_low m w) in
          let above : m ≤ b = omega (arith, small, inside, some) in
          rw (lt-leb 32 k some) (ap (λ (x : ℕ). bit_at x b) high ∙ bit_at_cat_high a m 0 b (pow_pos m) above ∙ sym (ap (λ (x : ℕ). bit_at x b) (sym (high_low m w)) ∙ bit_at_cat_high a m (w % 2 ^ m) b (mod-lt w (pow_pos m)) above))
    ]

clipped_none : (k w b : ℕ) → b < 32 → k ≤ 31 - b → bit_at (clipped k w) b ≡ 0
unfolding clipped
clipped_none k w b small past =
    let m = 32 - k in
    let a = w / 2 ^ m in
    let high : w - w % 2 ^ m ≡ a * 2 ^ m + 0 = omega (arith, high_low m w) in
    rw (lt-leb 32 k (omega (arith, small, past))) (ap (λ (x : ℕ). bit_at x b) high ∙ bit_at_cat_low a m 0 b (omega (arith, small, past)) ∙ bit_at-zero b)

word_of : (little : Bool) (bits : ℕ) (octets : List ℕ) (q : ℕ) → q < 8 → get_or (words_of little bits octets) q 0 ≡ word_at little bits octets q
word_of little bits octets zero lt = refl
word_of little bits octets (suc zero) lt = refl
word_of little bits octets (suc (suc zero)) lt = refl
word_of little bits octets (suc (suc (suc zero))) lt = refl
word_of little bits octets (suc (suc (suc (suc zero)))) lt = refl
word_of little bits octets (suc (suc (suc (suc (suc zero))))) lt = refl
word_of little bits octets (suc (suc (suc (suc (suc (suc zero)))))) lt = refl
word_of little bits octets (suc (suc (suc (suc (suc (suc (suc zero))))))) lt = refl
word_of little bits octets (suc (suc (suc (suc (suc (suc (suc (suc q)))))))) lt = absurd (omega (arith, lt))

pub bit_read : (little : Bool) (bits : ℕ) (octets : List ℕ) (i : ℕ) → i < 256 → has_bit (words_of little bits octets) i ≡ (nat_lt i bits && bit_in little octets i)
unfolding word_at
bit_read little bits octets i within =
    let q = i / 32 in
    let b = 31 - i % 32 in
    let w = number little w32 (take 4 (drop (4 * q) octets)) in
    let word : has_bit (words_of little bits octets) i ≡ (bit_at (word_at little bits octets q) b == 1) = ap (λ (x : ℕ). bit_at x b == 1) (word_of little bits octets q (omega (arith, within))) in
    word ∙ elim (cases_lt i bits) [
      | inl inside ↦
          rw (lt-ltb i bits inside, lt-ltb (32 * q) bits (omega (arith, inside))) (ap (λ (x : ℕ). x == 1) (clipped_bit (bits - 32 * q) w b (omega arith) (omega (arith, inside))))
      | inr past ↦
          rw (le-ltb i bits past) (elim (cases_lt (32 * q) bits) [
            | inl some ↦ rw (lt-ltb (32 * q) bits some) (ap (λ (x : ℕ). x == 1) (clipped_none (bits - 32 * q) w b (omega arith) (omega (arith, past))))
            | inr none ↦ rw (le-ltb (32 * q) bits none) (ap (λ (x : ℕ). x == 1) (bit_at-zero b))
          ])
    ]

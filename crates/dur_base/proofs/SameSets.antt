-- A set of numbers has one form.
use Rattle.std.proofs.Common.{◌≡◌, ℕ, suc, zero, ◌+◌, ◌-◌, ◌<◌, ◌^◌, ◌==◌, ◌&&◌, Bool, true, false, List, [], ◌∷◌, length, refl, ap, sym, ◌∙◌, arith, inl, inr, subst}
use Rattle.std.specs.Prelude.{nat_lt}
use Rattle.std.specs.Int.{bit_at}
use Rattle.std.proofs.lemmas.Bool.{cases_lt, lt-ltb, le-leb}
use Rattle.std.proofs.lemmas.Nat.Bits.{bit_at-lt, same_from_bits_below}
use Rattle.dur_base.specs.NumberSets.{NumberSet, IsNormal, IsNumberSet, has_bit, names}
use Rattle.dur_base.proofs.WordBits.{AreWords, bit_behind, bit_inside}

-- a bit is told by whether it is 1
same_bit_of : (a b : ℕ) → a < 2 → b < 2 → (a == 1) ≡ (b == 1) → a ≡ b
same_bit_of zero zero p q h = refl
same_bit_of zero (suc zero) p q h = let e : false ≡ true = h in absurd cc
same_bit_of (suc zero) zero p q h = let e : true ≡ false = h in absurd cc
same_bit_of (suc zero) (suc zero) p q h = refl
same_bit_of (suc (suc a)) b p q h = absurd (omega (arith, p))
same_bit_of zero (suc (suc b)) p q h = absurd (omega (arith, q))
same_bit_of (suc zero) (suc (suc b)) p q h = absurd (omega (arith, q))

same_word : (x y : ℕ) (xs ys : List ℕ) → x < 2 ^ 32 → y < 2 ^ 32 → ((j : ℕ) → has_bit (x ∷ xs) j ≡ has_bit (y ∷ ys) j) → x ≡ y
same_word x y xs ys p q same = same_from_bits_below 32 x y p q (λ i lt.
    let place : 31 - (31 - i) ≡ i = omega (arith, lt) in
    let at : (bit_at x (31 - (31 - i)) == 1) ≡ (bit_at y (31 - (31 - i)) == 1) = sym (bit_inside x xs (31 - i) (omega arith)) ∙ same (31 - i) ∙ bit_inside y ys (31 - i) (omega arith) in
    same_bit_of (bit_at x i) (bit_at y i) (bit_at-lt x i) (bit_at-lt y i) (subst (λ (t : ℕ). (bit_at x t == 1) ≡ (bit_at y t == 1)) place at))

same_words : (xs ys : List ℕ) → AreWords xs → AreWords ys → length xs ≡ length ys → ((j : ℕ) → has_bit xs j ≡ has_bit ys j) → xs ≡ ys
same_words [] [] p q len same = refl
same_words [] (y ∷ ys) p q len same = absurd (omega (arith, len))
same_words (x ∷ xs) [] p q len same = absurd (omega (arith, len))
same_words (x ∷ xs) (y ∷ ys) p q len same =
    let first : x ≡ y = same_word x y xs ys (p 0) (q 0) same in
    let later : xs ≡ ys = same_words xs ys (λ i. p (suc i)) (λ i. q (suc i)) (omega (arith, len)) (λ j.
    let place : j + 32 - 32 ≡ j = omega arith in
    let at : has_bit xs (j + 32 - 32) ≡ has_bit ys (j + 32 - 32) = sym (bit_behind x xs (j + 32) (omega arith)) ∙ same (j + 32) ∙ bit_behind y ys (j + 32) (omega arith) in
    subst (λ (t : ℕ). has_bit xs t ≡ has_bit ys t) place at) in
    ap (λ (t : ℕ). t ∷ xs) first ∙ ap (λ (t : List ℕ). y ∷ t) later

and_no : (a b : Bool) → b ≡ false → (a && b) ≡ b
and_no true b h = refl
and_no false b h = sym h

-- the number behind the base by j is in the set exactly where bit j is set
named : (set : NumberSet) (j : ℕ) → IsNormal set.count set.words → names set (set.base + j) ≡ has_bit set.words j
named set j normal =
    let place : set.base + j - set.base ≡ j = omega arith in
    ap (λ (b : Bool). b && (nat_lt (set.base + j - set.base) set.count && has_bit set.words (set.base + j - set.base))) (le-leb set.base (set.base + j) (omega arith))
    ∙ ap (λ (t : ℕ). nat_lt t set.count && has_bit set.words t) place
    ∙ elim (cases_lt j set.count) [
      | inl lt ↦ ap (λ (b : Bool). b && has_bit set.words j) (lt-ltb j set.count lt)
      | inr le ↦ and_no (nat_lt j set.count) (has_bit set.words j) (normal.clear j le)
    ]

-- a count that is not reached is 0
no_more : (m n : ℕ) (words : List ℕ) → IsNormal m words → IsNormal n words → m < n → ⊥
no_more m n words p q lt = elim q.reaches [
  | inl none ↦ absurd (omega (arith, lt, none))
  | inr last ↦ let e = sym last ∙ p.clear (n - 1) (omega (arith, lt)) in absurd cc
]

one_count : (m n : ℕ) (words : List ℕ) → IsNormal m words → IsNormal n words → m ≡ n
one_count m n words p q = elim (cases_lt m n) [
  | inl lt ↦ absurd (no_more m n words p q lt)
  | inr le ↦ elim (cases_lt n m) [ inl more ↦ absurd (no_more n m words q p more) | inr less ↦ omega (arith, le, less) ]
]

pub one_form : (a b : NumberSet) → IsNumberSet a → IsNumberSet b → a.base ≡ b.base → ((k : ℕ) → names a k ≡ names b k) → a ≡ b
one_form a b p q base same =
    let words : a.words ≡ b.words = same_words a.words b.words p.words q.words (p.eight ∙ sym q.eight) (λ j.
    sym (named a j p.normal) ∙ same (a.base + j) ∙ ap (λ (t : ℕ). names b (t + j)) base ∙ named b j q.normal) in
    let count : a.count ≡ b.count = one_count a.count b.count b.words (subst (λ (ws : List ℕ). IsNormal a.count ws) words p.normal) q.normal in
    built base count words where
      built : a.base ≡ b.base → a.count ≡ b.count → a.words ≡ b.words → a ≡ b
      built base count words = ap (λ (t : ℕ). record { base = t; count = a.count; words = a.words }) base ∙ ap (λ (t : ℕ). record { base = b.base; count = t; words = a.words }) count ∙ ap (λ (t : List ℕ). record { base = b.base; count = b.count; words = t }) words

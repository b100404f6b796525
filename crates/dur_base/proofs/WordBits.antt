-- One more bit in a list of words.
use Rattle.std.proofs.Common.{◌∷◌, [], ◌≡◌, ◌≢◌, ℕ, ◌+◌, ◌-◌, ◌*◌, ◌/◌, ◌%◌, ◌^◌, ◌<◌, ◌≤◌, ◌==◌, ◌||◌, Bool, true, false, List, length, get_or, refl, ap, sym, ◌∙◌, arith, inl, inr, get_or-set_same, get_or-set_other, suc, zero, subst, cond, ◌⊎◌}
use Rattle.std.specs.Prelude.{bit_or, slice_set, nat_lt, ◌&&◌, if◌then◌else◌}
use Rattle.std.specs.Int.{bit_at, w32, trailing_zeros}
use Rattle.std.proofs.lemmas.Bool.{cases_eq, cases_lt, eq-eqb, ne_eqb, lt-ltb, le-leb, lt-leb}
use Rattle.std.proofs.lemmas.Nat.Bits.{bit_at-zero, bit_at-trailing_zeros, bit_at_set_same, bit_at_set_other}
use Rattle.dur_base.specs.NumberSets.{NumberSet, has_bit, names, width_of, IsClearFrom, IsNormal}

abbrev pub with_bit : List ℕ → ℕ → List ℕ
with_bit words i = slice_set words (i / 32) (bit_or (get_or words (i / 32) 0) (1 * 2 ^ (31 - i % 32) % 4294967296))

same_bit : (words : List ℕ) (i : ℕ) → i / 32 < length words → has_bit (with_bit words i) i ≡ true
same_bit words i n =
    ap (λ w. bit_at w (31 - i % 32) == 1) (get_or-set_same words (i / 32) _ 0 n)
    ∙ ap (λ b. b == 1) (bit_at_set_same w32 (get_or words (i / 32) 0) (31 - i % 32) (omega arith))

other_bit : (words : List ℕ) (i j : ℕ) → i / 32 < length words → (j ≡ i → ⊥) → has_bit (with_bit words i) j ≡ has_bit words j
other_bit words i j n ne = elim (cases_eq (j / 32) (i / 32)) [
  | inl e ↦
      let differ : 31 - j % 32 ≢ 31 - i % 32 = λ s. ne (omega arith) in
      ap (λ q. bit_at (get_or (with_bit words i) q 0) (31 - j % 32) == 1) e
      ∙ ap (λ w. bit_at w (31 - j % 32) == 1) (get_or-set_same words (i / 32) _ 0 n)
      ∙ ap (λ b. b == 1) (bit_at_set_other w32 (get_or words (i / 32) 0) (31 - i % 32) (omega arith) (31 - j % 32) differ)
      ∙ ap (λ q. bit_at (get_or words q 0) (31 - j % 32) == 1) (sym e)
  | inr apart ↦ ap (λ w. bit_at w (31 - j % 32) == 1) (get_or-set_other words (i / 32) (j / 32) _ 0 apart)
]

or_true : (b : Bool) → (b || true) ≡ true
or_true true = refl
or_true false = refl

or_false : (b : Bool) → (b || false) ≡ b
or_false true = refl
or_false false = refl

pub bit_pushed : (words : List ℕ) (i j : ℕ) → length words ≡ 8 → i < 256 → has_bit (with_bit words i) j ≡ (has_bit words j || (j == i))
bit_pushed words i j n within =
    let near : i / 32 < length words = omega arith in
    elim (cases_eq j i) [
      | inl e ↦ rw e (same_bit words i near ∙ sym (ap (λ b. has_bit words i || b) (eq-eqb i i refl) ∙ or_true (has_bit words i)))
      | inr ne ↦ other_bit words i j near ne ∙ sym (ap (λ b. has_bit words j || b) (ne_eqb j i ne) ∙ or_false (has_bit words j))
    ]

pub clear_pushed : (words : List ℕ) (i count : ℕ) → length words ≡ 8 → i < 256 → count ≤ i → IsClearFrom words count → IsClearFrom (with_bit words i) (i + 1)
clear_pushed words i count n within above clear j far =
    other_bit words i j (omega arith) (λ e. omega arith) ∙ clear j (omega arith)

and_no : (a b : Bool) → b ≡ false → (a && b) ≡ false
and_no true b h = h
and_no false b h = refl

-- what a set names with one more bit above the others
pub names_pushed : (set : NumberSet) (i : ℕ) → length set.words ≡ 8 → i < 256 → set.count ≤ i → IsClearFrom set.words set.count
    → (k : ℕ) → names (record { base = set.base; count = i + 1; words = with_bit set.words i }) k ≡ (names set k || (k == set.base + i))
names_pushed set i n within above clear k = elim (cases_lt k set.base) [
  | inl below ↦
      ap (λ t. t && (nat_lt (k - set.base) (i + 1) && has_bit (with_bit set.words i) (k - set.base))) (lt-leb set.base k below)
      ∙ sym (ap (λ t. (t && (nat_lt (k - set.base) set.count && has_bit set.words (k - set.base))) || (k == set.base + i)) (lt-leb set.base k below) ∙ ne_eqb k (set.base + i) (λ e. absurd (omega arith)))
  | inr at ↦
      ap (λ t. t && (nat_lt (k - set.base) (i + 1) && has_bit (with_bit set.words i) (k - set.base))) (le-leb set.base k at)
      ∙ ap (λ t. nat_lt (k - set.base) (i + 1) && t) (bit_pushed set.words i (k - set.base) n within)
      ∙ from_base (k - set.base) k refl at
      ∙ sym (ap (λ t. (t && (nat_lt (k - set.base) set.count && has_bit set.words (k - set.base))) || (k == set.base + i)) (le-leb set.base k at))
] where
  from_base : (d k : ℕ) → d ≡ k - set.base → set.base ≤ k → (nat_lt d (i + 1) && (has_bit set.words d || (d == i))) ≡ ((nat_lt d set.count && has_bit set.words d) || (k == set.base + i))
  from_base d k e at = elim (cases_eq d i) [
    | inl same ↦
        ap (λ t. t && (has_bit set.words d || (d == i))) (lt-ltb d (i + 1) (omega arith))
        ∙ ap (λ t. has_bit set.words d || t) (eq-eqb d i same) ∙ or_true (has_bit set.words d)
        ∙ sym (ap (λ t. (nat_lt d set.count && has_bit set.words d) || t) (eq-eqb k (set.base + i) (omega arith)) ∙ or_true (nat_lt d set.count && has_bit set.words d))
    | inr differ ↦
        ap (λ t. nat_lt d (i + 1) && (has_bit set.words d || t)) (ne_eqb d i differ)
        ∙ ap (λ t. nat_lt d (i + 1) && t) (or_false (has_bit set.words d))
        ∙ other d differ
        ∙ sym (ap (λ t. (nat_lt d set.count && has_bit set.words d) || t) (ne_eqb k (set.base + i) (λ s. differ (omega arith))) ∙ or_false (nat_lt d set.count && has_bit set.words d))
  ] where
    other : (d : ℕ) → (d ≡ i → ⊥) → (nat_lt d (i + 1) && has_bit set.words d) ≡ (nat_lt d set.count && has_bit set.words d)
    other d differ = elim (cases_lt d set.count) [
      | inl low ↦ ap (λ t. t && has_bit set.words d) (lt-ltb d (i + 1) (omega arith) ∙ sym (lt-ltb d set.count low))
      | inr high ↦ and_no (nat_lt d (i + 1)) _ (clear d high) ∙ sym (and_no (nat_lt d set.count) _ (clear d high))
    ]

-- pushing keeps the normal form
pub normal_pushed : (words : List ℕ) (i count : ℕ) → length words ≡ 8 → i < 256 → count ≤ i → IsNormal count words → IsNormal (i + 1) (with_bit words i)
normal_pushed words i count n within above normal = record {
  within = omega arith;
  clear = clear_pushed words i count n within above normal.clear;
  reaches = inr (last (i + 1 - 1) (omega arith));
} where
  last : (j : ℕ) → j ≡ i → has_bit (with_bit words i) j ≡ true
  last j e = rw e (same_bit words i (omega arith))

-- the bits of the first word, and of those behind it
pub bit_behind : (word : ℕ) (words : List ℕ) (j : ℕ) → 32 ≤ j → has_bit (word ∷ words) j ≡ has_bit words (j - 32)
bit_behind word words j far =
    let place : j / 32 ≡ suc ((j - 32) / 32) = omega arith in
    let bit : j % 32 ≡ (j - 32) % 32 = omega arith in
    ap (λ q. bit_at (get_or (word ∷ words) q 0) (31 - j % 32) == 1) place
    ∙ ap (λ r. bit_at (get_or words ((j - 32) / 32) 0) (31 - r) == 1) bit

pub bit_inside : (word : ℕ) (words : List ℕ) (j : ℕ) → j < 32 → has_bit (word ∷ words) j ≡ (bit_at word (31 - j) == 1)
bit_inside word words j near =
    let place : j / 32 ≡ 0 = omega arith in
    let bit : j % 32 ≡ j = omega arith in
    ap (λ q. bit_at (get_or (word ∷ words) q 0) (31 - j % 32) == 1) place
    ∙ ap (λ r. bit_at word (31 - r) == 1) bit

-- the place behind the last bit of a word
word_width : (word : ℕ) → ℕ
word_width word = if word == 0 then 0 else 32 - trailing_zeros w32 word

abbrev pub IsWord : ℕ → Type 0
IsWord word = word < 2 ^ 32

word_clear : (word : ℕ) → IsWord word → (j : ℕ) → j < 32 → word_width word ≤ j → (bit_at word (31 - j) == 1) ≡ false
unfolding word_width
word_clear zero small j near far = ap (λ b. b == 1) (bit_at-zero (31 - j))
word_clear (suc m) small j near far =
    let lowest = bit_at-trailing_zeros w32 (suc m) (omega arith) small in
    let far_set : 32 - trailing_zeros w32 (suc m) ≤ j = subst (λ (t : ℕ). t ≤ j) (ap (λ b. cond b 0 (32 - trailing_zeros w32 (suc m))) (ne_eqb (suc m) 0 (λ e. omega (arith, e)))) far in
    ap (λ b. b == 1) (lowest.2 (31 - j) (omega (arith, far_set, near, lowest.0)))

word_reaches : (word : ℕ) → IsWord word → (word_width word ≡ 0) ⊎ ((word_width word ≤ 32) × (0 < word_width word) × ((bit_at word (31 - (word_width word - 1)) == 1) ≡ true))
unfolding word_width
word_reaches zero small = inl refl
word_reaches (suc m) small =
    let lowest = bit_at-trailing_zeros w32 (suc m) (omega arith) small in
    let is : word_width (suc m) ≡ 32 - trailing_zeros w32 (suc m) = ap (λ b. cond b 0 (32 - trailing_zeros w32 (suc m))) (ne_eqb (suc m) 0 (λ e. omega (arith, e))) in
    let place : 31 - (word_width (suc m) - 1) ≡ trailing_zeros w32 (suc m) = omega (arith, is, lowest.0) in
    inr (omega (arith, is), omega (arith, is, lowest.0), ap (λ t. bit_at (suc m) t == 1) place ∙ ap (λ b. b == 1) lowest.1)

abbrev pub AreWords : List ℕ → Type 0
AreWords words = (i : ℕ) → IsWord (get_or words i 0)

-- the place behind the last bit of some words
behind : ℕ → List ℕ → ℕ
behind word words = if width_of words == 0 then word_width word else width_of words + 32

behind_none : (word : ℕ) (words : List ℕ) → width_of words ≡ 0 → width_of (word ∷ words) ≡ word_width word
unfolding word_width
behind_none word words e = ap (λ b. cond b (word_width word) (width_of words + 32)) (eq-eqb (width_of words) 0 e)

behind_some : (word : ℕ) (words : List ℕ) → (width_of words ≡ 0 → ⊥) → width_of (word ∷ words) ≡ width_of words + 32
unfolding word_width
behind_some word words ne = ap (λ b. cond b (word_width word) (width_of words + 32)) (ne_eqb (width_of words) 0 ne)

pub width_clear : (words : List ℕ) → AreWords words → IsClearFrom words (width_of words)
width_clear [] small j far = ap (λ b. b == 1) (bit_at-zero (31 - j % 32))
width_clear (word ∷ words) small j far =
    elim (cases_eq (width_of words) 0) [
      | inl e ↦
          elim (cases_lt j 32) [
            | inl near ↦ bit_inside word words j near ∙ word_clear word (small 0) j near (subst (λ (t : ℕ). t ≤ j) (behind_none word words e) far)
            | inr past ↦ bit_behind word words j past ∙ width_clear words (λ i. small (suc i)) (j - 32) (omega (arith, e))
          ]
      | inr ne ↦
          let width = behind_some word words ne in
          bit_behind word words j (omega (arith, width, far)) ∙ width_clear words (λ i. small (suc i)) (j - 32) (omega (arith, width, far))
    ]

pub width_reaches : (words : List ℕ) → AreWords words → (width_of words ≡ 0) ⊎ (has_bit words (width_of words - 1) ≡ true)
width_reaches [] small = inl refl
width_reaches (word ∷ words) small =
    elim (cases_eq (width_of words) 0) [
      | inl e ↦ elim (word_reaches word (small 0)) [
        | inl none ↦ inl (behind_none word words e ∙ none)
        | inr some ↦
            let width = behind_none word words e in
            inr (ap (λ t. has_bit (word ∷ words) (t - 1)) width ∙ bit_inside word words (word_width word - 1) (omega (arith, some.0, some.1)) ∙ some.2)
      ]
      | inr ne ↦
          let width = behind_some word words ne in
          let place : width_of (word ∷ words) - 1 - 32 ≡ width_of words - 1 = omega (arith, width) in
          elim (width_reaches words (λ i. small (suc i))) [
            | inl e ↦ absurd (ne e)
            | inr some ↦ inr (bit_behind word words (width_of (word ∷ words) - 1) (omega (arith, width, positive (width_of words) ne)) ∙ ap (has_bit words) place ∙ some)
          ]
    ] where
      positive : (n : ℕ) → (n ≡ 0 → ⊥) → 0 < n
      positive zero ne = absurd (ne refl)
      positive (suc n) ne = omega arith

pub width_normal : (words : List ℕ) → AreWords words → width_of words ≤ 256 → IsNormal (width_of words) words
width_normal words small within = record { within = within; clear = width_clear words small; reaches = width_reaches words small }

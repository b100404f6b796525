-- Which fragments came, a bit each.
use Rattle.std.proofs.Common.{◌≡◌, ℕ, zero, suc, ◌+◌, ◌-◌, ◌*◌, ◌/◌, ◌%◌, ◌^◌, ◌<◌, ◌≤◌, ◌++◌, Bool, true, false, eqb, List, [], ◌∷◌, Some, None, length, drop, replicate, get_or, set, refl, sym, ◌∙◌, ap, inl, inr, arith, ext_get_or, length-set, get_or-set_same, get_or-set_other, eq-eqb, w64}
use Rattle.std.proofs.lemmas.List.{length-replicate, get_or-replicate, get_or_append_left}
use Rattle.std.proofs.lemmas.List.FromFn.{length-map-range_with_len, get_or-map-range_with_len}
use Rattle.std.proofs.lemmas.Bool.{cases_eq, cases_lt, false≢true}
use Rattle.std.proofs.lemmas.Nat.Bits.{bit_at_set_same, bit_at_set_other, bit_at-zero, bit_at_ones, bit_at-trailing_ones}
use Rattle.std.specs.Prelude.{bit_or}
use Rattle.std.specs.Int.{bit_at, trailing_ones}
use Rattle.rtps_frag.specs.Asking.{first_from}
use Rattle.rtps_frag.specs.Marks.{mark_at, marks_in, IsFirstUnset}

pub length-marks_in : (words : List ℕ) (n : ℕ) → length (marks_in words n) ≡ n
unfolding marks_in
length-marks_in words n = length-map-range_with_len (mark_at words) 0 n

pub get_or-marks_in : (words : List ℕ) (n k : ℕ) (d : Bool) → k < n → get_or (marks_in words n) k d ≡ mark_at words k
unfolding marks_in
get_or-marks_in words n k d within = get_or-map-range_with_len (mark_at words) 0 n k k d within (omega arith)

-- words whose bits are all zero
pub none_marked : (words : List ℕ) (n : ℕ) → ((q : ℕ) → 64 * q < n → get_or words q 0 ≡ 0) → marks_in words n ≡ replicate n false
none_marked words n zero_at =
    ext_get_or false _ _ (length-marks_in words n ∙ sym (length-replicate n false))
    (λ k within.
    let early : k < n = omega (arith, within, length-marks_in words n) in
    get_or-marks_in words n k false early
    ∙ ap (λ x. eqb (bit_at x (k % 64)) 1) (zero_at (k / 64) (omega (arith, early)))
    ∙ ap (λ x. eqb x 1) (bit_at-zero (k % 64))
    ∙ sym (get_or-replicate n k false false early))

-- the first words cleared
pub cleared : (words after : List ℕ) (q n : ℕ) → after ≡ replicate q 0 ++ drop q words → n ≤ 64 * q → marks_in after n ≡ replicate n false
cleared words after q n after_is room =
    none_marked after n
    (λ k early.
    let within : k < q = omega (arith, early, room) in
    ap (λ (t : List ℕ). get_or t k 0) after_is ∙ get_or_append_left (replicate q 0) (drop q words) 0 k (omega (arith, within, length-replicate {A = ℕ} q 0)) ∙ get_or-replicate q k 0 0 within)

-- a bit set
pub marked : (words : List ℕ) (n k word : ℕ) → k < n → n ≤ 64 * length words → word ≡ get_or words (k / 64) 0
    → marks_in (set words (k / 64) (bit_or word (1 * 2 ^ (k % 64) % 2 ^ 64))) n ≡ set (marks_in words n) k true
marked words n k word within room read =
    let v : ℕ = bit_or word (1 * 2 ^ (k % 64) % 2 ^ 64) in
    let place : k < length (marks_in words n) = omega (arith, within, length-marks_in words n) in
    let there : k / 64 < length words = omega (arith, within, room) in
    let low : k % 64 < 64 = omega arith in
    ext_get_or false _ _ (length-marks_in _ n ∙ sym (length-marks_in words n) ∙ sym (length-set (marks_in words n) k true))
    (λ j inside.
    let early : j < n = omega (arith, inside, length-marks_in (set words (k / 64) v) n) in
    get_or-marks_in _ n j false early
    ∙ (elim (cases_eq j k) as (λ _. mark_at (set words (k / 64) v) j ≡ get_or (set (marks_in words n) k true) j false) [
      | inl same ↦
          rw same
          (ap (λ x. eqb (bit_at x (k % 64)) 1) (get_or-set_same words (k / 64) v 0 there)
          ∙ eq-eqb _ 1 (bit_at_set_same w64 word (k % 64) low)
          ∙ sym (get_or-set_same (marks_in words n) k true false place))
      | inr other ↦
          (elim (cases_eq (j / 64) (k / 64)) as (λ _. mark_at (set words (k / 64) v) j ≡ mark_at words j) [
            | inl row ↦
                ap (λ x. eqb (bit_at (get_or (set words (k / 64) v) x 0) (j % 64)) 1) row
                ∙ ap (λ x. eqb (bit_at x (j % 64)) 1) (get_or-set_same words (k / 64) v 0 there)
                ∙ ap (λ x. eqb x 1) (bit_at_set_other w64 word (k % 64) low (j % 64) (omega arith))
                ∙ ap (λ x. eqb (bit_at x (j % 64)) 1) (read ∙ ap (λ x. get_or words x 0) (sym row))
            | inr apart ↦ ap (λ x. eqb (bit_at x (j % 64)) 1) (get_or-set_other words (k / 64) (j / 64) v 0 apart)
          ])
          ∙ sym (get_or-marks_in words n j false early)
          ∙ sym (get_or-set_other (marks_in words n) k j true false other)
    ]))

-- ---- the first that did not come

-- the bits of a word more
in_word : (words : List ℕ) (q word j : ℕ) → word ≡ get_or words q 0 → j / 64 ≡ q → mark_at words j ≡ eqb (bit_at word (j % 64)) 1
in_word words q word j read row = ap (λ (x : ℕ). eqb (bit_at (get_or words x 0) (j % 64)) 1) row ∙ ap (λ (x : ℕ). eqb (bit_at x (j % 64)) 1) (sym read)

pub one_word_more : (words : List ℕ) (q word : ℕ) → ((k : ℕ) → k < 64 * q → mark_at words k ≡ true) → word ≡ 2 ^ 64 - 1 → word ≡ get_or words q 0 → (k : ℕ) → k < 64 * (q + 1) → mark_at words k ≡ true
one_word_more words q word before full read k within =
    elim (cases_lt k (64 * q)) [
      | inl early ↦ before k early
      | inr late ↦
          let row : k / 64 ≡ q = omega (arith, late, within) in
          in_word words q word k read row
          ∙ ap (λ (x : ℕ). eqb (bit_at x (k % 64)) 1) full
          ∙ eq-eqb _ 1 (bit_at_ones 64 (k % 64) (omega arith))
    ]

pub unset_in_word : (words : List ℕ) (q word : ℕ) → ((k : ℕ) → k < 64 * q → mark_at words k ≡ true) → word + 1 < 2 ^ 64 → word ≡ get_or words q 0 → IsFirstUnset words (64 * q + trailing_ones w64 word)
unset_in_word words q word before small read =
    let ones = trailing_ones w64 word in
    let known = bit_at-trailing_ones w64 word small in
    let low : ones < 64 = known.0 in
    let row : (64 * q + ones) / 64 ≡ q = omega (arith, low) in
    let place : (64 * q + ones) % 64 ≡ ones = omega (arith, low) in
    record {
      unset = in_word words q word (64 * q + ones) read row ∙ ap (λ (x : ℕ). eqb (bit_at word x) 1) place ∙ ap (λ (x : ℕ). eqb x 1) known.1;
      least = λ k within.
          elim (cases_lt k (64 * q)) [
            | inl early ↦ before k early
            | inr late ↦
                let here : k / 64 ≡ q = omega (arith, late, within, low) in
                let less : k % 64 < ones = omega (arith, late, within, low) in
                in_word words q word k read here ∙ eq-eqb _ 1 (known.2 (k % 64) less)
          ];
    }

-- of flags
first_later : (came : List Bool) (base k : ℕ) → k ≤ length came → ((j : ℕ) → j < k → get_or came j true ≡ true) → get_or came k true ≡ false → first_from base came ≡ Some (base + k)
first_later [] base k within before here = absurd (false≢true (sym here))
first_later (true ∷ came) base zero within before here = absurd (false≢true (sym here))
first_later (false ∷ came) base zero within before here = ap (λ (n : ℕ). Some n) (omega arith)
first_later (false ∷ came) base (suc k) within before here = absurd (false≢true (before 0 (omega arith)))
first_later (true ∷ came) base (suc k) within before here = first_later came (base + 1) k (omega (arith, within)) (λ j early. before (suc j) (omega (arith, early))) here ∙ ap (λ (n : ℕ). Some n) (omega arith)

all_came : (came : List Bool) (base : ℕ) → ((j : ℕ) → j < length came → get_or came j true ≡ true) → first_from base came ≡ None
all_came [] base each = refl
all_came (true ∷ came) base each = all_came came (base + 1) (λ j early. each (suc j) (omega (arith, early)))
all_came (false ∷ came) base each = absurd (false≢true (each 0 (omega arith)))

pub first_marked : (words : List ℕ) (n at : ℕ) → IsFirstUnset words at → at < n → first_from 0 (marks_in words n) ≡ Some at
first_marked words n at x within =
    first_later (marks_in words n) 0 at (omega (arith, within, length-marks_in words n)) (λ k early. get_or-marks_in words n k true (omega (arith, early, within)) ∙ x.least k early) (get_or-marks_in words n at true within ∙ x.unset)
    ∙ ap (λ (n : ℕ). Some n) (omega arith)

pub none_missing : (words : List ℕ) (n : ℕ) → ((k : ℕ) → k < n → mark_at words k ≡ true) → first_from 0 (marks_in words n) ≡ None
none_missing words n each = all_came (marks_in words n) 0 (λ k within. let early : k < n = omega (arith, within, length-marks_in words n) in get_or-marks_in words n k true early ∙ each k early)

-- A set that was written reads as itself.
use Rattle.std.proofs.Common.{◌≡◌, ℕ, zero, suc, ◌+◌, ◌-◌, ◌*◌, ◌/◌, ◌%◌, ◌^◌, ◌<◌, ◌≤◌, ◌==◌, Bool, true, false, List, [], ◌∷◌, ◌++◌, length, take, drop, get_or, refl, sym, ap, subst, ◌∙◌, append_assoc, append-nil, None, inl, inr, arith}
use Rattle.std.specs.Prelude.{if◌then◌else◌}
use Rattle.std.specs.List.{flat_map}
use Rattle.std.specs.Int.{bit_at, w32, trailing_zeros}
use Rattle.std.proofs.Math.Seq.{drop-append-add}
use Rattle.std.proofs.lemmas.Bool.{cases_eq, cases_lt, eq-eqb, ne_eqb, le-leb, lt-leb, lt-ltb, le-ltb}
use Rattle.std.proofs.lemmas.List.{take_at, length-take, get_or-take}
use Rattle.std.proofs.lemmas.Nat.{mod-pow-add}
use Rattle.std.proofs.lemmas.Nat.Bits.{bit_at-lt}
use Rattle.dur_base.specs.Fields.{number, octets, sequence, sequence_octets}
use Rattle.dur_base.specs.NumberSets.{NumberSet, IsClearFrom, IsNormal, width_of, set_of}
use Rattle.dur_base.proofs.FieldNumbers.{length_32, again_32, length_sequence, sequence_again}
use Rattle.dur_base.proofs.WordBits.{width_normal}
use Rattle.rtps_submsg.specs.declared.sub.Sub.{Sub}
use Rattle.rtps_submsg.specs.Grammar.{Rule, Row, field, Spells}
use Rattle.rtps_submsg.specs.Sets.{clipped, word_at, words_of}
use Rattle.rtps_submsg.specs.Rows.{base_rule, bits_bad, bits_rule, base_read, words_row, bits_row, set_row}
use Rattle.rtps_submsg.specs.Writing.{set_text, IsNumberSet}

-- ---- one field

pub field_back : {V : Type 0} (width : ℕ) (rule : Rule) (next : List ℕ → Row V) (text rest : List ℕ) (told : V) → length text ≡ width → rule text rest ≡ None → Spells (next text) rest told → Spells (field width rule next) (text ++ rest) told
field_back width rule next text rest told fits good later = (text, rest, refl, fits, good, later)

pub sequence_self : (little : Bool) (n : ℕ) → n < 2 ^ 64 → sequence little (sequence_octets little n) ≡ n
sequence_self little n lt = ap (sequence little) (sym (append-nil (sequence_octets little n))) ∙ sequence_again little n [] lt

-- ---- bits

low_clear : (m w : ℕ) → ((b : ℕ) → b < m → bit_at w b ≡ 0) → w % 2 ^ m ≡ 0
low_clear zero w clear = omega arith
low_clear (suc m) w clear =
    let one : suc m ≡ 1 + m = omega arith in
    let parts : w % 2 ^ (1 + m) ≡ (w / 2 ^ m % 2 ^ 1) * 2 ^ m + w % 2 ^ m = mod-pow-add w 1 m in
    let high : w / 2 ^ m % 2 ≡ 0 = clear m (omega arith) in
    let low : w % 2 ^ m ≡ 0 = low_clear m w (λ b lt. clear b (omega (arith, lt))) in
    ap (λ (n : ℕ). w % 2 ^ n) one ∙ parts ∙ rw (high, low) (omega arith)

no_bit : (x : ℕ) → x < 2 → (x == 1) ≡ false → x ≡ 0
no_bit x small e = elim (cases_eq x 1) [
  | inl one ↦ absurd (true_not_false (sym (eq-eqb x 1 one) ∙ e))
  | inr other ↦ omega (arith, small, other)
] where
  true_not_false : true ≡ false → ⊥
  true_not_false e = cc

bit_clear : (words : List ℕ) (count i b : ℕ) → IsClearFrom words count → b < 32 → count ≤ 32 * i + (31 - b) → bit_at (get_or words i 0) b ≡ 0
bit_clear words count i b clear small far =
    let j = 32 * i + (31 - b) in
    let place : j / 32 ≡ i = omega (arith, small) in
    let bit : 31 - j % 32 ≡ b = omega (arith, small) in
    let said : (bit_at (get_or words (j / 32) 0) (31 - j % 32) == 1) ≡ false = clear j far in
    no_bit (bit_at (get_or words i 0) b) (bit_at-lt (get_or words i 0) b)
    (sym (ap (λ q. bit_at (get_or words q 0) (31 - j % 32) == 1) place ∙ ap (λ r. bit_at (get_or words i 0) r == 1) bit) ∙ said)

-- a word that holds the last bits keeps them
clipped_same : (words : List ℕ) (count i : ℕ) → IsClearFrom words count → 32 * i < count → clipped (count - 32 * i) (get_or words i 0) ≡ get_or words i 0
unfolding clipped
clipped_same words count i clear inside =
    elim (cases_lt (count - 32 * i) 32) [
      | inr all ↦ rw (le-leb 32 (count - 32 * i) all) refl
      | inl some ↦
          let word = get_or words i 0 in
          let m = 32 - (count - 32 * i) in
          let low : word % 2 ^ m ≡ 0 = low_clear m word (λ b lt. bit_clear words count i b clear (omega (arith, lt)) (omega (arith, lt, some, inside))) in
          rw (lt-leb 32 (count - 32 * i) some, low) (omega arith)
    ]

-- a word past the last bit is 0
past_zero : (words : List ℕ) (count i : ℕ) → IsClearFrom words count → get_or words i 0 < 2 ^ 32 → count ≤ 32 * i → get_or words i 0 ≡ 0
past_zero words count i clear small past =
    let low : get_or words i 0 % 2 ^ 32 ≡ 0 = low_clear 32 (get_or words i 0) (λ b lt. bit_clear words count i b clear lt (omega (arith, past))) in
    omega (arith, low, small)

-- ---- the words in a body

abbrev spelt : Bool → List ℕ → List ℕ
spelt little words = flat_map (λ word. octets little w32 word) words

word_in : (little : Bool) (words : List ℕ) (i : ℕ) → i < length words → take 4 (drop (4 * i) (spelt little words)) ≡ octets little w32 (get_or words i 0)
word_in little [] i inside = absurd (omega (arith, inside))
word_in little (w ∷ ws) zero inside = take_at (octets little w32 w) (spelt little ws) 4 (length_32 little w)
word_in little (w ∷ ws) (suc i) inside =
    let more : 4 * suc i ≡ 4 + 4 * i = omega arith in
    let front : length (octets little w32 w) + 4 * i ≡ 4 + 4 * i = omega (arith, length_32 little w) in
    let behind : drop (4 * suc i) (octets little w32 w ++ spelt little ws) ≡ drop (4 * i) (spelt little ws) =
    ap (λ n. drop n (octets little w32 w ++ spelt little ws)) (more ∙ sym front) ∙ drop-append-add (octets little w32 w) (spelt little ws) (4 * i) in
    ap (take 4) behind ∙ word_in little ws i (omega (arith, inside))

-- each word reads as itself
word_back : (little : Bool) (words : List ℕ) (count i : ℕ) → length words ≡ 8 → ((j : ℕ) → get_or words j 0 < 2 ^ 32) → IsNormal count words → i < 8
    → word_at little count (spelt little (take ((count + 31) / 32) words)) i ≡ get_or words i 0
unfolding word_at
word_back little words count i eight small normal within =
    let n = (count + 31) / 32 in
    elim (cases_lt (32 * i) count) [
      | inr past ↦ rw (le-ltb (32 * i) count past) (sym (past_zero words count i normal.clear (small i) past))
      | inl inside ↦
          let used : i < length (take n words) = omega (arith, length-take n words, eight, inside, within) in
          let read : number little w32 (take 4 (drop (4 * i) (spelt little (take n words)))) ≡ get_or words i 0 =
          ap (number little w32) (word_in little (take n words) i used ∙ ap (octets little w32) (get_or-take n words i 0 (omega (arith, inside)))) ∙ again_32 little (get_or words i 0) (small i) in
          rw (lt-ltb (32 * i) count inside, read) (clipped_same words count i normal.clear inside)
    ]

eight_words : (ws : List ℕ) → length ws ≡ 8 → get_or ws 0 0 ∷ get_or ws 1 0 ∷ get_or ws 2 0 ∷ get_or ws 3 0 ∷ get_or ws 4 0 ∷ get_or ws 5 0 ∷ get_or ws 6 0 ∷ get_or ws 7 0 ∷ [] ≡ ws
eight_words (a ∷ b ∷ c ∷ d ∷ e ∷ f ∷ g ∷ h ∷ []) len = refl
eight_words ws len = absurd (omega (arith, len))

words_back : (little : Bool) (words : List ℕ) (count : ℕ) → length words ≡ 8 → ((j : ℕ) → get_or words j 0 < 2 ^ 32) → IsNormal count words
    → words_of little count (spelt little (take ((count + 31) / 32) words)) ≡ words
words_back little words count eight small normal =
    let back : (i : ℕ) → i < 8 → word_at little count (spelt little (take ((count + 31) / 32) words)) i ≡ get_or words i 0 = λ i lt. word_back little words count i eight small normal lt in
    rw (back 0 (omega arith), back 1 (omega arith), back 2 (omega arith), back 3 (omega arith), back 4 (omega arith), back 5 (omega arith), back 6 (omega arith), back 7 (omega arith)) (eight_words words eight)

-- ---- the count

true_or_false : true ≡ false → ⊥
true_or_false e = cc

not_below : (words : List ℕ) (a b : ℕ) → IsNormal a words → IsNormal b words → a < b → ⊥
not_below words a b x y lt = elim y.reaches [
  | inl none ↦ omega (arith, lt, none)
  | inr last ↦ true_or_false (sym last ∙ x.clear (b - 1) (omega (arith, lt)))
]

normal_once : (words : List ℕ) (a b : ℕ) → IsNormal a words → IsNormal b words → a ≡ b
normal_once words a b x y = elim (cases_lt a b) [
  | inl lt ↦ absurd (not_below words a b x y lt)
  | inr le ↦ elim (cases_eq a b) [
    | inl e ↦ e
    | inr ne ↦ absurd (not_below words b a y x (omega (arith, le, ne)))
  ]
]

width_within : (words : List ℕ) → width_of words ≤ 32 * length words
width_within [] = omega arith
width_within (word ∷ words) = elim (cases_eq (width_of words) 0) [
  | inl e ↦ rw (eq-eqb (width_of words) 0 e) (one word (length words))
  | inr ne ↦ rw (ne_eqb (width_of words) 0 ne) (omega (arith, width_within words))
] where
  one : (word n : ℕ) → (if word == 0 then 0 else 32 - trailing_zeros w32 word) ≤ 32 * suc n
  one zero n = omega arith
  one (suc m) n = rw (ne_eqb (suc m) 0 (λ e. omega (arith, e))) (omega arith)

width_back : (words : List ℕ) (count : ℕ) → length words ≡ 8 → ((j : ℕ) → get_or words j 0 < 2 ^ 32) → IsNormal count words → width_of words ≡ count
width_back words count eight small normal =
    normal_once words (width_of words) count (width_normal words small (omega (arith, width_within words, eight))) normal

-- ---- the set

words_spell : (little : Bool) (words : List ℕ) (n : ℕ) (next : List ℕ → Row Sub) (rest : List ℕ) (told : Sub) → length words ≡ n → Spells (next (spelt little words)) rest told → Spells (words_row n next) (spelt little words ++ rest) told
words_spell little [] zero next rest told len later = later
words_spell little [] (suc n) next rest told len later = absurd (omega (arith, len))
words_spell little (w ∷ ws) zero next rest told len later = absurd (omega (arith, len))
words_spell little (w ∷ ws) (suc n) next rest told len later =
    (octets little w32 w, spelt little ws ++ rest, append_assoc (octets little w32 w) (spelt little ws) rest, length_32 little w, refl, words_spell little ws n (λ words. next (octets little w32 w ++ words)) rest told (omega (arith, len)) later)

set_again : (little : Bool) (set : NumberSet) → IsNumberSet set → set_of (base_read set.base) (words_of little set.count (spelt little (take ((set.count + 31) / 32) set.words))) ≡ set
set_again little set typed =
    ap (set_of (base_read set.base)) (words_back little set.words set.count typed.eight typed.words typed.normal)
    ∙ rw (ne_eqb set.base 0 (λ e. omega (arith, e, typed.least)), width_back set.words set.count typed.eight typed.words typed.normal) refl

pub set_spells : (little is_ack : Bool) (next : NumberSet → Row Sub) (set : NumberSet) (rest : List ℕ) (told : Sub) → IsNumberSet set → Spells (next set) rest told → Spells (set_row little is_ack next) (set_text little set ++ rest) told
unfolding set_text
set_spells little is_ack next set rest told typed later =
    let n = (set.count + 31) / 32 in
    let base = sequence_octets little set.base in
    let bits = octets little w32 set.count in
    let words = spelt little (take n set.words) in
    let base_is : sequence little base ≡ set.base = sequence_self little set.base (omega (arith, typed.most)) in
    let bits_is : number little w32 bits ≡ set.count = again_32 little set.count (omega (arith, typed.normal.within)) in
    let parts : ((base ++ bits) ++ words) ++ rest ≡ base ++ (bits ++ (words ++ rest)) = simp append_assoc in
    let base_good : base_rule little is_ack base (bits ++ (words ++ rest)) ≡ None = rw (base_is, le-leb 1 set.base typed.least, lt-ltb set.base (2 ^ 63) typed.most) refl in
    let bits_good : bits_bad set.base (number little w32 bits) ≡ None = rw (bits_is, ne_eqb set.base 0 (λ e. omega (arith, e, typed.least)), le-leb set.count 256 typed.normal.within) refl in
    let size : length (take n set.words) ≡ n = omega (arith, length-take n set.words, typed.eight, typed.normal.within) in
    let last : Spells (next (set_of (base_read set.base) (words_of little set.count words))) rest told = subst (λ (s : NumberSet). Spells (next s) rest told) (sym (set_again little set typed)) later in
    let in_words : Spells (bits_row little set.base set.count next) (words ++ rest) told =
    words_spell little (take n set.words) n (λ w. next (set_of (base_read set.base) (words_of little set.count w))) rest told size last in
    let counted : Spells (field 4 (bits_rule little set.base) (λ b. bits_row little set.base (number little w32 b) next)) (bits ++ (words ++ rest)) told =
    field_back 4 (bits_rule little set.base) (λ b. bits_row little set.base (number little w32 b) next) bits (words ++ rest) told (length_32 little set.count) bits_good (subst (λ (m : ℕ). Spells (bits_row little set.base m next) (words ++ rest) told) (sym bits_is) in_words) in
    subst (λ (b : List ℕ). Spells (set_row little is_ack next) b told) (sym parts)
    (field_back 8 (base_rule little is_ack) (λ b. field 4 (bits_rule little (sequence little b)) (λ c. bits_row little (sequence little b) (number little w32 c) next)) base (bits ++ (words ++ rest)) told (length_sequence little set.base) base_good
    (subst (λ (m : ℕ). Spells (field 4 (bits_rule little m) (λ c. bits_row little m (number little w32 c) next)) (bits ++ (words ++ rest)) told) (sym base_is) counted))

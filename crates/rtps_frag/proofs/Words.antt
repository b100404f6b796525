-- The words of a set of fragments, and the message that asks for them.
use Rattle.std.proofs.Common.{◌≡◌, ℕ, zero, suc, ◌+◌, ◌-◌, ◌*◌, ◌/◌, ◌%◌, ◌^◌, ◌==◌, get_or, inl, inr, ◌<◌, ◌≤◌, Bool, true, false, List, [], ◌∷◌, ◌++◌, length, take, drop, refl, sym, ap, ◌∙◌, append-nil, arith}
use Rattle.std.specs.Prelude.{if◌then◌else◌}
use Rattle.std.specs.List.{AllByRecursion}
use Rattle.std.proofs.lemmas.List.{take_at, drop_at, drop-drop, take_all, length-append}
use Rattle.std.proofs.Math.Nat.{pow-le-pow_right, pow-suc}
use Rattle.rtps_submsg.specs.declared.sub.Sub.TheVariants.{InfoDst}
use Rattle.rtps_submsg.specs.Writing.{sub_text, HasText}
use Rattle.rtps_submsg.proofs.Text.{length_sub}
use Rattle.rtps_message.specs.Written.{opening, message}
use Rattle.rtps_frag.specs.Asking.{digits, word_where, words_where, nack_sub, nack_message}
use Rattle.rtps_frag.specs.declared.asks.FragAsk.{FragAsk}
use Rattle.std.specs.Int.{bit_at}
use Rattle.std.proofs.lemmas.Nat.Bits.{bit_at_cat_low, bit_at_cat_high}
use Rattle.std.proofs.lemmas.Bool.{cases_lt}
use Rattle.rtps_frag.specs.Laws.{BitsInPlace}
use lib.Seq.{paste}

one_more : (b : Bool) (value bound : ℕ) → value < bound → value * 2 + (if b then 1 else 0) < bound * 2
one_more true value bound below = omega (arith, below)
one_more false value bound below = omega (arith, below)

pub digits_below : (test : ℕ → Bool) (k n : ℕ) → digits test k n < 2 ^ n
digits_below test k zero = omega arith
digits_below test k (suc n) = rw (pow-suc 2 n) (one_more (test (k + n)) (digits test k n) (2 ^ n) (digits_below test k n))

pub digits_fit : (test : ℕ → Bool) (k n word : ℕ) → word ≡ digits test k n → n < 32 → word * 2 + 1 < 2 ^ 32
digits_fit test k n word word_is early =
    let two : 0 < 2 = omega arith in
    let power : 2 ^ suc n ≤ 2 ^ 32 = pow-le-pow_right two early in
    let twice : 2 ^ suc n ≡ 2 ^ n * 2 = pow-suc 2 n in
    let below : digits test k n < 2 ^ n = digits_below test k n in
    omega (arith, power, twice, below, word_is)

pub word_done : (test : ℕ → Bool) (k n word : ℕ) → word ≡ digits test k n → n ≤ 32 → 32 ≤ n → word ≡ word_where test k
unfolding word_where
word_done test k n word word_is most least = let all : n ≡ 32 = omega (arith, most, least) in word_is ∙ ap (digits test k) all

-- header and INFO_DST have 36 octets
start_len : (from to : List ℕ) → length from ≡ 12 → length to ≡ 12 → length (message from (InfoDst to ∷ [])) ≡ 36
unfolding message
start_len from to f t =
    let head : List ℕ = 82 ∷ 84 ∷ 80 ∷ 83 ∷ 2 ∷ 5 ∷ 0 ∷ 0 ∷ [] in
    omega (arith, length-append head from, length-append (opening from) (sub_text true (InfoDst to) ++ []), ap length (append-nil (sub_text true (InfoDst to))), length_sub true (InfoDst to), f, t)

pub start_fits : (from to : List ℕ) → length from ≡ 12 → length to ≡ 12 → AllByRecursion (HasText true) (InfoDst to ∷ []) × (length (message from (InfoDst to ∷ [])) ≡ 36)
start_fits from to f t = ((record { known = tt; fits = omega (arith, t) }, tt), start_len from to f t)

-- the NACK_FRAG behind them
pub sent : (start old text out new : List ℕ) (n : ℕ) → out ≡ start ++ drop n old → n ≡ length start → new ≡ paste out n text (length text) → new ≡ (start ++ text) ++ drop (n + length text) old
sent start old text out new n out_is n_is new_is =
    let front : take n out ≡ start = rw (out_is) (take_at start (drop n old) n (sym n_is)) in
    let back : drop n out ≡ drop n old = rw (out_is) (drop_at start (drop n old) n (sym n_is)) in
    let far : drop (n + length text) out ≡ drop (n + length text) old = sym (drop-drop (length text) n out) ∙ ap (drop (length text)) back ∙ drop-drop (length text) n old in
    new_is ∙ rw (front, far, take_all (length text) text (omega arith)) refl

pub nack_sent : (from to : List ℕ) (ask : FragAsk) (count at len : ℕ) (old out new text : List ℕ)
    → out ≡ message (take 12 from) (InfoDst (take 12 to) ∷ []) ++ drop at old → at ≡ length (message (take 12 from) (InfoDst (take 12 to) ∷ [])) → text ≡ nack_sub (drop 12 from) (drop 12 to) ask count → len ≡ length text
    → new ≡ paste out at text (length text) → (at + len ≡ length (nack_message from to ask count)) × (new ≡ nack_message from to ask count ++ drop (at + len) old)
unfolding nack_message
nack_sent from to ask count at len old out new text out_is at_is text_is len_is new_is =
    let start = message (take 12 from) (InfoDst (take 12 to) ∷ []) in
    let both : at + len ≡ length (start ++ text) = omega (arith, at_is, len_is, length-append start text) in (
      both ∙ ap (λ (t : List ℕ). length (start ++ t)) text_is,
      rw (len_is) (sent start old text out new at out_is at_is new_is) ∙ ap (λ (t : List ℕ). (start ++ t) ++ drop (at + len) old) text_is,
    )

-- ---- bits

one_bit : (t : Bool) → (bit_at (if t then 1 else 0) 0 == 1) ≡ t
one_bit true = refl
one_bit false = refl

one_small : (t : Bool) → (if t then 1 else 0) < 2 ^ 1
one_small true = omega arith
one_small false = omega arith

low_digit : (v b : ℕ) → bit_at (v * 2 + b) 0 ≡ bit_at b 0
low_digit v b = bit_at_cat_low v 1 b 0 (omega arith)

high_digit : (v b i : ℕ) → b < 2 ^ 1 → bit_at (v * 2 + b) (suc i) ≡ bit_at v i
high_digit v b i small = let less : suc i - 1 ≡ i = omega arith in bit_at_cat_high v 1 b (suc i) small (omega arith) ∙ ap (bit_at v) less

digit_at : (test : ℕ → Bool) (k n j : ℕ) → j < n → (bit_at (digits test k n) (n - 1 - j) == 1) ≡ test (k + j)
digit_at test k zero j within = absurd (omega (arith, within))
digit_at test k (suc m) j within =
    elim (cases_lt j m) [
      | inl less ↦
          let place : suc m - 1 - j ≡ suc (m - 1 - j) = omega (arith, less) in
          let one_on : bit_at (digits test k (suc m)) (suc m - 1 - j) ≡ bit_at (digits test k m) (m - 1 - j) =
          ap (bit_at (digits test k (suc m))) place ∙ high_digit (digits test k m) (if test (k + m) then 1 else 0) (m - 1 - j) (one_small (test (k + m))) in
          ap (λ (x : ℕ). x == 1) one_on ∙ digit_at test k m j less
      | inr least ↦
          let place : suc m - 1 - j ≡ 0 = omega (arith, least, within) in
          let last : m ≡ j = omega (arith, least, within) in
          let lowest : bit_at (digits test k (suc m)) (suc m - 1 - j) ≡ bit_at (if test (k + m) then 1 else 0) 0 = ap (bit_at (digits test k (suc m))) place ∙ low_digit (digits test k m) (if test (k + m) then 1 else 0) in
          ap (λ (x : ℕ). x == 1) lowest ∙ one_bit (test (k + m)) ∙ ap (λ (x : ℕ). test (k + x)) last
    ]

word_bit : (test : ℕ → Bool) (k r : ℕ) → r < 32 → (bit_at (word_where test k) (31 - r) == 1) ≡ test (k + r)
unfolding word_where
word_bit test k r small = digit_at test k 32 r small

moved : (test : ℕ → Bool) (a b : ℕ) → a ≡ b → word_where test a ≡ word_where test b
moved test a b same = ap (word_where test) same

word_of : (test : ℕ → Bool) (k q : ℕ) → q < 8 → get_or (words_where test k) q 0 ≡ word_where test (k + 32 * q)
word_of test k zero lt = moved test k (k + 32 * 0) (omega arith)
word_of test k (suc zero) lt = moved test (k + 32) (k + 32 * 1) (omega arith)
word_of test k (suc (suc zero)) lt = moved test (k + 64) (k + 32 * 2) (omega arith)
word_of test k (suc (suc (suc zero))) lt = moved test (k + 96) (k + 32 * 3) (omega arith)
word_of test k (suc (suc (suc (suc zero)))) lt = moved test (k + 128) (k + 32 * 4) (omega arith)
word_of test k (suc (suc (suc (suc (suc zero))))) lt = moved test (k + 160) (k + 32 * 5) (omega arith)
word_of test k (suc (suc (suc (suc (suc (suc zero)))))) lt = moved test (k + 192) (k + 32 * 6) (omega arith)
word_of test k (suc (suc (suc (suc (suc (suc (suc zero))))))) lt = moved test (k + 224) (k + 32 * 7) (omega arith)
word_of test k (suc (suc (suc (suc (suc (suc (suc (suc q)))))))) lt = absurd (omega (arith, lt))

pub bits_in_place : BitsInPlace
bits_in_place test k d within =
    let q = d / 32 in
    let r = d % 32 in
    let there : k + 32 * q + r ≡ k + d = omega arith in
    ap (λ (x : ℕ). bit_at x (31 - r) == 1) (word_of test k q (omega (arith, within))) ∙ word_bit test (k + 32 * q) r (omega arith) ∙ ap test there

-- The words that are written of a plan, and what is read of them.
use Rattle.std.proofs.Common.{◌≡◌, ℕ, zero, suc, ◌*◌, ◌/◌, ◌%◌, ◌<◌, ◌≤◌, List, [], ◌∷◌, ◌++◌, length, get_or, refl, sym, ap, ◌∙◌, append-nil, arith, Bool, true, false, cond, Option, Some, None, inl, inr, codes}
use Rattle.std.specs.Prelude.{◌==◌, ◌&&◌, ◌||◌, not, nat_lt, nat_le, IsTrue, slice_index}
use Rattle.std.specs.List.{list_all, AllByRecursion}
use Rattle.std.specs.Str.{bytes_eq}
use Rattle.std.specs.Fmt.{decimal}
use Rattle.std.proofs.lemmas.Bool.{cases_Bool, lt-ltb, le-leb, leb-true}
use Rattle.std.proofs.lemmas.Bool.Decides.{nat_tests}
use Rattle.std.proofs.lemmas.List.Splits.{slice_split_none, slice_split_at}
use Rattle.std.proofs.lemmas.List.Elements.{All-from_recursion}
use Rattle.std.proofs.lemmas.Slice.Eq.{bytes_eq-Decides}
use Rattle.std.proofs.lemmas.Fmt.{digits_decimal, digits_value-decimal, decimal_digit, decimal_nonempty, first_decimal, length-decimal-le}
use Rattle.std.proofs.lemmas.Str.Parse.{IsNumeralModel, IsDigitsTest, numerals_by_fold}
use Rattle.hex.specs.Hex.{IsBytes, encode_lower, encode_with, lower_digits}
use Rattle.hex.proofs.HexLemmas.{decode_sized-encode_lower, length-encode_with}
use Rattle.dur_base.specs.Names.{is_name, is_name_octet}
use Rattle.dur_base.specs.declared.kinds.Durability.{Durability}
use Rattle.dur_base.specs.declared.kinds.Durability.TheVariants.{Volatile, TransientLocal, Transient, Persistent}
use Rattle.dur_base.specs.declared.kinds.Shape.{Shape}
use Rattle.dur_base.specs.declared.kinds.Shape.TheVariants as shape
use Rattle.dur_qos.specs.Digits.{is_digit, is_hex, hex_of, number_of, value_after}
use Rattle.dur_qos.specs.Words.{words}
use Rattle.dur_qos.specs.Lines.{topic_kind_of, reader_kind_of, shape_of, history_of, limit_of, name_of}
use Rattle.dur_qos.specs.Served.{rank}
use Rattle.dur_qos.specs.Good.{IsLimit}
use Rattle.dur_qos.specs.Text.{HasNoFeed}
use Rattle.dur_qos.specs.Written.{kind_word, shape_word, history_word, limit_word, behind, IsOctets}

-- neither a space nor a line feed
pub record IsInWord (b : ℕ) : Type 0 where
  pub space : (b == 32) ≡ false
  pub feed : (b == 10) ≡ false

abbrev pub IsWord : List ℕ → Type 0
IsWord w = AllByRecursion IsInWord w

-- ---- a line of words
no_space : (w : List ℕ) → IsWord w → AllByRecursion (λ b. (b == 32) ≡ false) w
no_space [] h = tt
no_space (b ∷ w) h = (h.0.space, no_space w h.1)

pub words_behind : (w : List ℕ) (ws : List (List ℕ)) → IsWord w → AllByRecursion IsWord ws → words (w ++ behind ws) ≡ w ∷ ws
words_behind w [] h hs =
    ap words (append-nil w) ∙ slice_split_none (λ b. b == 32) w (All-from_recursion (λ b. (b == 32) ≡ false) w (no_space w h))
words_behind w (v ∷ vs) h hs =
    slice_split_at (λ b. b == 32) w 32 (v ++ behind vs) (All-from_recursion (λ b. (b == 32) ≡ false) w (no_space w h)) refl
    ∙ ap (λ (t : List (List ℕ)). w ∷ t) (words_behind v vs hs.0 hs.1)

feed_on : (w rest : List ℕ) → IsWord w → HasNoFeed rest → HasNoFeed (w ++ rest)
feed_on [] rest h k = k
feed_on (b ∷ w) rest h k = (h.0.feed, feed_on w rest h.1 k)

pub feed_behind : (w : List ℕ) (ws : List (List ℕ)) → IsWord w → AllByRecursion IsWord ws → HasNoFeed (w ++ behind ws)
feed_behind w [] h hs = feed_on w [] h tt
feed_behind w (v ∷ vs) h hs = feed_on w (32 ∷ (v ++ behind vs)) h (refl, feed_behind v vs hs.0 hs.1)

-- ---- octets of words
in_word : (f : ℕ → Bool) (b : ℕ) → f 32 ≡ false → f 10 ≡ false → f b ≡ true → IsInWord b
in_word f b space feed is = record { space = not_at 32 space; feed = not_at 10 feed }
  where
    not_at : (n : ℕ) → f n ≡ false → (b == n) ≡ false
    not_at n other = elim (cases_Bool (b == n)) [
      | inl e ↦ let same : b ≡ n = grind (arith, nat_tests) in let both : true ≡ false = sym is ∙ ap f same ∙ other in absurd cc
      | inr e ↦ e
    ]

pub both : (a b : Bool) → (a && b) ≡ true → (a ≡ true) × (b ≡ true)
both true b e = (refl, e)
both false b e = absurd cc

pub is_word : (f : ℕ → Bool) (w : List ℕ) → f 32 ≡ false → f 10 ≡ false → list_all f w ≡ true → IsWord w
is_word f [] space feed h = tt
is_word f (b ∷ w) space feed h = let k = both (f b) (list_all f w) h in (in_word f b space feed k.0, is_word f w space feed k.1)

-- ---- numbers
abbrev Digits : List ℕ → Type 0
Digits ds = list_all is_digit ds ≡ true

digits_test : IsDigitsTest Digits
digits_test = record {
  empty = refl;
  parts = λ c cs e. let k = both (is_digit c) (list_all is_digit cs) e in let m = both (nat_le 48 c) (nat_le c 57) k.0 in ((leb-true 48 c m.0, leb-true c 57 m.1), k.1);
  more = λ c cs k e. rw (le-leb 48 c k.0, le-leb c 57 k.1, e) refl;
}

model : IsNumeralModel Digits (value_after 0)
model = numerals_by_fold Digits digits_test value_after (record { empty = λ n. refl; more = λ n c cs k. refl })

decimal_digits : (n : ℕ) → n ≤ 2147483647 → list_all is_digit (decimal n) ≡ true
decimal_digits n small = digits_decimal model n (omega (arith, small))

pub decimal_word : (n : ℕ) → n ≤ 2147483647 → IsWord (decimal n)
decimal_word n small = is_word is_digit (decimal n) refl refl (decimal_digits n small)

pub decimal_short : (n : ℕ) → n ≤ 2147483647 → length (decimal n) ≤ 10
decimal_short n small = length-decimal-le 10 n (omega arith) (omega (arith, small)) (omega (arith, small))

-- a number is 0, or does not begin with a zero
no_zero : (n : ℕ) → n ≤ 2147483647 → (not (slice_index (decimal n) 0 == 48) || (length (decimal n) == 1)) ≡ true
no_zero zero small = rw (decimal_digit 0 (omega arith)) refl
no_zero (suc n) small =
    let first : 48 < get_or (decimal (suc n)) 0 0 = first_decimal (suc n) (omega arith) (omega (arith, small)) in
    let other : (slice_index (decimal (suc n)) 0 == 48) ≡ false = grind (arith, nat_tests) in
    rw other refl

pub number_back : (n : ℕ) → n ≤ 2147483647 → number_of (decimal n) ≡ Some n
unfolding number_of
number_back n small =
    let value : value_after 0 (decimal n) ≡ n = digits_value-decimal model n (omega (arith, small)) in
    rw (lt-ltb 0 (length (decimal n)) (decimal_nonempty n (omega (arith, small))), decimal_digits n small, no_zero n small, value, le-leb n 2147483647 small) refl

-- a text of digits is no other text
not_digits : (n : ℕ) (text : List ℕ) → n ≤ 2147483647 → list_all is_digit text ≡ false → bytes_eq (decimal n) text ≡ false
not_digits n text small other = elim (cases_Bool (bytes_eq (decimal n) text)) [
  | inl e ↦ let same : decimal n ≡ text = (bytes_eq-Decides (decimal n) text).0 e in let twice : true ≡ false = sym (decimal_digits n small) ∙ ap (list_all is_digit) same ∙ other in absurd cc
  | inr e ↦ e
]

pub limit_back : (o : Option ℕ) → IsLimit o → limit_of (limit_word o) ≡ Some o
limit_back None h = refl
limit_back (Some n) h = rw (not_digits n (codes "-") h.1 refl, number_back n h.1, lt-ltb 0 n h.0) refl

pub history_back : (o : Option ℕ) → IsLimit o → history_of (history_word o) ≡ Some o
history_back None h = refl
history_back (Some n) h = rw (not_digits n (codes "all") h.1 refl, number_back n h.1, lt-ltb 0 n h.0) refl

-- at most so many octets of a word
pub record Fits (w : List ℕ) (most : ℕ) : Type 0 where
  pub word : IsWord w
  pub short : length w ≤ most

pub limit_fits : (o : Option ℕ) → IsLimit o → Fits (limit_word o) 10
limit_fits None h = record { word = is_word (λ b. b == 45) (codes "-") refl refl refl; short = omega arith }
limit_fits (Some n) h = record { word = decimal_word n h.1; short = decimal_short n h.1 }

pub history_fits : (o : Option ℕ) → IsLimit o → Fits (history_word o) 10
history_fits None h = record { word = is_word is_name_octet (codes "all") refl refl refl; short = omega arith }
history_fits (Some n) h = record { word = decimal_word n h.1; short = decimal_short n h.1 }

-- ---- kinds and shapes
pub kind_back : (k : Durability) → 2 ≤ rank k → topic_kind_of (kind_word k) ≡ Some k
kind_back Volatile h = absurd (omega (arith, h))
kind_back TransientLocal h = absurd (omega (arith, h))
kind_back Transient h = refl
kind_back Persistent h = refl

pub reader_kind_back : (k : Durability) → reader_kind_of (kind_word k) ≡ Some k
reader_kind_back Volatile = refl
reader_kind_back TransientLocal = refl
reader_kind_back Transient = refl
reader_kind_back Persistent = refl

pub kind_fits : (k : Durability) → Fits (kind_word k) 15
kind_fits Volatile = record { word = is_word is_name_octet (codes "volatile") refl refl refl; short = omega arith }
kind_fits TransientLocal = record { word = is_word is_name_octet (codes "transient_local") refl refl refl; short = omega arith }
kind_fits Transient = record { word = is_word is_name_octet (codes "transient") refl refl refl; short = omega arith }
kind_fits Persistent = record { word = is_word is_name_octet (codes "persistent") refl refl refl; short = omega arith }

pub shape_back : (s : Shape) → shape_of (shape_word s) ≡ Some s
shape_back shape.None = refl
shape_back shape.Hash = refl
shape_back shape.U32 = refl
shape_back shape.Text = refl

pub shape_fits : (s : Shape) → Fits (shape_word s) 4
shape_fits shape.None = record { word = is_word is_name_octet (codes "none") refl refl refl; short = omega arith }
shape_fits shape.Hash = record { word = is_word is_name_octet (codes "hash") refl refl refl; short = omega arith }
shape_fits shape.U32 = record { word = is_word is_name_octet (codes "u32") refl refl refl; short = omega arith }
shape_fits shape.Text = record { word = is_word is_name_octet (codes "text") refl refl refl; short = omega arith }

-- ---- names
pub name_back : (n : List ℕ) → IsTrue (is_name n) → name_of n ≡ Some n
name_back n h = ap (λ (b : Bool). cond b (Some n) None) h

pub name_fits : (n : List ℕ) → IsTrue (is_name n) → Fits n 64
name_fits n h =
    let parts = both (nat_lt 0 (length n) && nat_le (length n) 64) (list_all is_name_octet n) h in
    let sizes = both (nat_lt 0 (length n)) (nat_le (length n) 64) parts.0 in
    record { word = is_word is_name_octet n refl refl parts.1; short = leb-true (length n) 64 sizes.1 }

-- ---- octets as hex
digit_hex : (d : ℕ) → d < 16 → is_hex (slice_index lower_digits d) ≡ true
digit_hex zero h = refl
digit_hex (suc zero) h = refl
digit_hex (suc (suc zero)) h = refl
digit_hex (suc (suc (suc zero))) h = refl
digit_hex (suc (suc (suc (suc zero)))) h = refl
digit_hex (suc (suc (suc (suc (suc zero))))) h = refl
digit_hex (suc (suc (suc (suc (suc (suc zero)))))) h = refl
digit_hex (suc (suc (suc (suc (suc (suc (suc zero))))))) h = refl
digit_hex (suc (suc (suc (suc (suc (suc (suc (suc zero)))))))) h = refl
digit_hex (suc (suc (suc (suc (suc (suc (suc (suc (suc zero))))))))) h = refl
digit_hex (suc (suc (suc (suc (suc (suc (suc (suc (suc (suc zero)))))))))) h = refl
digit_hex (suc (suc (suc (suc (suc (suc (suc (suc (suc (suc (suc zero))))))))))) h = refl
digit_hex (suc (suc (suc (suc (suc (suc (suc (suc (suc (suc (suc (suc zero)))))))))))) h = refl
digit_hex (suc (suc (suc (suc (suc (suc (suc (suc (suc (suc (suc (suc (suc zero))))))))))))) h = refl
digit_hex (suc (suc (suc (suc (suc (suc (suc (suc (suc (suc (suc (suc (suc (suc zero)))))))))))))) h = refl
digit_hex (suc (suc (suc (suc (suc (suc (suc (suc (suc (suc (suc (suc (suc (suc (suc zero))))))))))))))) h = refl
digit_hex (suc (suc (suc (suc (suc (suc (suc (suc (suc (suc (suc (suc (suc (suc (suc (suc d)))))))))))))))) h = absurd (omega (arith, h))

pub encoded_hex : (bytes : List ℕ) → IsBytes bytes → list_all is_hex (encode_lower bytes) ≡ true
unfolding encode_with
encoded_hex [] h = refl
encoded_hex (b ∷ bytes) h =
    let small : b < 256 = h 0 in
    rw (digit_hex (b / 16) (omega (arith, small)), digit_hex (b % 16) (omega (arith, small)), encoded_hex bytes (λ i. h (suc i))) refl

pub hex_back : (n : ℕ) (bytes : List ℕ) → IsOctets n bytes → hex_of n (encode_lower bytes) ≡ Some bytes
unfolding hex_of
hex_back n bytes h = rw (encoded_hex bytes h.1, decode_sized-encode_lower bytes n h.0 h.1) refl

pub hex_fits : (n : ℕ) (bytes : List ℕ) → IsOctets n bytes → Fits (encode_lower bytes) (2 * n)
hex_fits n bytes h = record {
  word = is_word is_hex (encode_lower bytes) refl refl (encoded_hex bytes h.1);
  short = omega (arith, length-encode_with lower_digits bytes, h.0);
}

-- What a file is by its first octets.
use Rattle.std.proofs.Common.{◌≡◌, ◌≢◌, ◌⊎◌, inl, inr, ℕ, ◌+◌, ◌≤◌, ◌<◌, ◌^◌, min, ◌==◌, ◌||◌, nat_lt, if◌then◌else◌, Bool, true, false, not, List, [], ◌∷◌, ◌++◌, length, take, drop, get_or, Option, Some, None, option_map, Result, Ok, Err, refl, sym, ◌∙◌, ap, arith, eq-eqb}
use Rattle.std.specs.Int.{w32, w64}
use Rattle.std.proofs.lemmas.List.{length-append, length-drop, length-take-le, take-append-le, drop-append-le, take-append-drop, take_all, take_min, get_or_append_left}
use Rattle.dur_base.specs.Fields.{number}
use Rattle.std.proofs.lemmas.Bool.{cases_eq, cases_lt, le-leb, lt-leb, le-ltb, ne_eqb}
use Rattle.std.proofs.lemmas.Bool.Decides.{nat_tests}
use Rattle.dur_journal.specs.declared.front.Front.{Front}
use Rattle.dur_journal.specs.declared.front.Front.TheVariants.{Blank, Closed, Open}
use Rattle.dur_record.specs.declared.version.Version.{Version}
use Rattle.dur_record.specs.declared.version.Version.TheVariants.{One, Two}
use Rattle.dur_journal.specs.Texts.{version_in, version_of}
use Rattle.dur_journal.specs.File.{magic, difference, generation_in, base_length, header_in, behind_magic, front_in}

pub difference_none : (ms x : List ℕ) → take (length ms) x ≡ ms → difference ms x ≡ None
difference_none [] x is = refl
difference_none (m ∷ ms) [] is = absurd (cc)
difference_none (m ∷ ms) (b ∷ x) is =
    let here : b ≡ m = cc in
    let there : take (length ms) x ≡ ms = cc in
    let rest = difference_none ms x there in
    rw (eq-eqb b m here, rest) refl

none_of : (o : Option ℕ) → option_map (λ at. at + 1) o ≡ None → o ≡ None
none_of None is = refl
none_of (Some at) is = absurd (cc)

pub difference_back : (ms x : List ℕ) → difference ms x ≡ None → take (length ms) x ≡ ms
difference_back [] x is = refl
difference_back (m ∷ ms) [] is = absurd (cc)
difference_back (m ∷ ms) (b ∷ x) is = elim (cases_eq b m) [
  | inl same ↦ (let inner = rw (eq-eqb b m same) at is in let rest = difference_back ms x (none_of _ inner) in cc)
  | inr other ↦ (let inner = rw (ne_eqb b m other) at is in absurd (cc))
]

pub blank_front : (x : List ℕ) → length x ≤ 9 → front_in x ≡ Ok Blank
unfolding front_in
blank_front x short = rw (le-leb (length x) 9 short) refl

pub closed_front : (x : List ℕ) → 9 < length x → take 8 x ≡ magic → get_or x 8 0 ≢ 1 → front_in x ≡ Ok Closed
unfolding front_in
closed_front x long begins shut = rw (lt-leb (length x) 9 long, difference_none magic x begins, ne_eqb (get_or x 8 0) 1 shut) refl

pub open_front : (x : List ℕ) → 9 < length x → take 8 x ≡ magic → get_or x 8 0 ≡ 1 → front_in x ≡ header_in x
unfolding front_in
open_front x long begins gate = rw (lt-leb (length x) 9 long, difference_none magic x begins, eq-eqb (get_or x 8 0) 1 gate) refl

if_err : (b : Bool) (at : ℕ) (r : Result Front ℕ) (f : Front) → (if b then Err at else r) ≡ Ok f → (b ≡ false) × (r ≡ Ok f)
if_err true at r f is = absurd (cc)
if_err false at r f is = (refl, is)

-- what an open file's header says
pub record IsOpen (x : List ℕ) (f : Front) : Type 0 where
  pub front : f ≡ Open (generation_in x)
  pub long : 25 ≤ length x
  pub bound : base_length x ≤ 2 ^ 30

pub header_is : (x : List ℕ) (f : Front) → header_in x ≡ Ok f → IsOpen x f
unfolding header_in
header_is x f is =
    let opened : Result Front ℕ = Ok (Open (generation_in x)) in
    let based : Result Front ℕ = if nat_lt (2 ^ 30) (base_length x) then Err 17 else opened in
    let sized : Result Front ℕ = if nat_lt (length x) 25 then Err 17 else based in
    let dated : Result Front ℕ = if nat_lt (length x) 17 then Err 13 else sized in
    let versioned : Result Front ℕ = if not (version_in x == 1 || version_in x == 2) then Err 9 else dated in
    let a = if_err (nat_lt (length x) 13) 9 versioned f is in
    let b = if_err (not (version_in x == 1 || version_in x == 2)) 9 dated f a.1 in
    let c = if_err (nat_lt (length x) 17) 13 sized f b.1 in
    let d = if_err (nat_lt (length x) 25) 17 based f c.1 in
    let e = if_err (nat_lt (2 ^ 30) (base_length x)) 17 opened f d.1 in
    record { front = cc (e.1); long = grind (arith, nat_tests, d.0); bound = grind (arith, nat_tests, e.0) }

behind_is : (d : Option ℕ) (x : List ℕ) (f : Front) → behind_magic d x ≡ Ok f → (d ≡ None) × ((if get_or x 8 0 == 1 then header_in x else Ok Closed) ≡ Ok f)
behind_is None x f is = (refl, is)
behind_is (Some at) x f is = absurd (cc)

gate_is : (x : List ℕ) (f : Front) → (if get_or x 8 0 == 1 then header_in x else Ok Closed) ≡ Ok f
    → ((get_or x 8 0 ≡ 1) × IsOpen x f) ⊎ ((get_or x 8 0 ≢ 1) × (f ≡ Closed))
gate_is x f is = elim (cases_eq (get_or x 8 0) 1) [
  | inl gate ↦ (let inner = rw (eq-eqb (get_or x 8 0) 1 gate) at is in inl (gate, header_is x f inner))
  | inr shut ↦ (let inner = rw (ne_eqb (get_or x 8 0) 1 shut) at is in inr (shut, cc))
]

long_is : (x : List ℕ) (f : Front) → 9 < length x → front_in x ≡ Ok f
    → (take 8 x ≡ magic) × (((get_or x 8 0 ≡ 1) × IsOpen x f) ⊎ ((get_or x 8 0 ≢ 1) × (f ≡ Closed)))
unfolding front_in
long_is x f long is =
    let inner = rw (lt-leb (length x) 9 long) at is in
    let both = behind_is _ x f inner in
    (difference_back magic x both.0, gate_is x f both.1)

pub blank_short : (x : List ℕ) → front_in x ≡ Ok Blank → length x ≤ 9
blank_short x is = elim (cases_lt 9 (length x)) [
  | inl long ↦ elim ((long_is x Blank long is).1) [ inl opened ↦ (let no = opened.1.front in absurd (cc)) | inr shut ↦ (let no = shut.1 in absurd (cc)) ]
  | inr short ↦ omega (arith, short)
]

pub record HasClosed (x : List ℕ) : Type 0 where
  pub long : 9 < length x
  pub begins : take 8 x ≡ magic
  pub shut : get_or x 8 0 ≢ 1

pub closed_is : (x : List ℕ) → front_in x ≡ Ok Closed → HasClosed x
closed_is x is = elim (cases_lt 9 (length x)) [
  | inl long ↦ (let both = long_is x Closed long is in elim (both.1) [ inl opened ↦ (let no = opened.1.front in absurd (cc)) | inr shut ↦ record { long = long; begins = both.0; shut = shut.0 } ])
  | inr short ↦ (let no = blank_front x (omega (arith, short)) in absurd (cc))
]

pub record HasOpen (x : List ℕ) (g : ℕ) : Type 0 where
  pub long : 25 ≤ length x
  pub begins : take 8 x ≡ magic
  pub gate : get_or x 8 0 ≡ 1
  pub bound : base_length x ≤ 2 ^ 30
  pub generation : g ≡ generation_in x

pub open_is : (x : List ℕ) (g : ℕ) → front_in x ≡ Ok (Open g) → HasOpen x g
open_is x g is = elim (cases_lt 9 (length x)) [
  | inl long ↦ (let both = long_is x (Open g) long is in elim (both.1) [
    | inl opened ↦ (let front = opened.1.front in record { long = opened.1.long; begins = both.0; gate = opened.0; bound = opened.1.bound; generation = cc })
    | inr shut ↦ (let no = shut.1 in absurd (cc))
  ])
  | inr short ↦ (let no = blank_front x (omega (arith, short)) in absurd (cc))
]

pub closed_long : (x : List ℕ) → front_in x ≡ Ok Closed → 9 ≤ length x
closed_long x is = let was = closed_is x is in omega (arith, was.long)

pub open_long : (x : List ℕ) (g : ℕ) → front_in x ≡ Ok (Open g) → 25 ≤ length x
open_long x g is = (open_is x g is).long

-- a header of which every field is there
tested : ℕ → ℕ → ℕ → Result Front ℕ
tested version base generation = if not (version == 1 || version == 2) then Err 9 else if nat_lt (2 ^ 30) base then Err 17 else Ok (Open generation)

header_long : (x : List ℕ) → 25 ≤ length x → header_in x ≡ tested (version_in x) (base_length x) (generation_in x)
unfolding header_in tested
header_long x long = rw (le-ltb (length x) 13 (omega (arith, long)), le-ltb (length x) 17 (omega (arith, long)), le-ltb (length x) 25 long) refl

part_more : (at n : ℕ) (x rest : List ℕ) → at + n ≤ length x → take n (drop at (x ++ rest)) ≡ take n (drop at x)
part_more at n x rest long =
    ap (take n) (drop-append-le at x rest (omega (arith, long))) ∙ take-append-le n (drop at x) rest (omega (arith, long, length-drop at x))

header_more : (x rest : List ℕ) → 25 ≤ length x → header_in (x ++ rest) ≡ header_in x
unfolding version_in base_length generation_in
header_more x rest long =
    let longer : 25 ≤ length (x ++ rest) = omega (arith, long, length-append x rest) in
    header_long (x ++ rest) longer
    ∙ ap (λ (l : List ℕ). tested (number true w32 l) (base_length (x ++ rest)) (generation_in (x ++ rest))) (part_more 9 4 x rest (omega (arith, long)))
    ∙ ap (λ (l : List ℕ). tested (version_in x) (number true w64 l) (generation_in (x ++ rest))) (part_more 17 8 x rest (omega (arith, long)))
    ∙ ap (λ (l : List ℕ). tested (version_in x) (base_length x) (number true w32 l)) (part_more 13 4 x rest (omega (arith, long)))
    ∙ sym (header_long x long)

difference_more : (ms x rest : List ℕ) → length ms ≤ length x → difference ms (x ++ rest) ≡ difference ms x
difference_more [] x rest long = refl
difference_more (m ∷ ms) [] rest long = absurd (omega (arith, long, length-append (m ∷ []) ms))
difference_more (m ∷ ms) (b ∷ x) rest long =
    let inner = difference_more ms x rest (omega (arith, long, length-append (m ∷ []) ms, length-append (b ∷ []) x)) in
    ap (λ (o : Option ℕ). if b == m then option_map (λ at. at + 1) o else Some 0) inner

behind_more : (d : Option ℕ) (x rest : List ℕ) → 25 ≤ length x → behind_magic d (x ++ rest) ≡ behind_magic d x
behind_more (Some at) x rest long = refl
behind_more None x rest long =
    ap (λ (n : ℕ). if n == 1 then header_in (x ++ rest) else Ok Closed) (get_or_append_left x rest 0 8 (omega (arith, long)))
    ∙ ap (λ (r : Result Front ℕ). if get_or x 8 0 == 1 then r else Ok Closed) (header_more x rest long)

-- octets behind the first 25 do not matter
pub front_more : (x rest : List ℕ) → 25 ≤ length x → front_in (x ++ rest) ≡ front_in x
unfolding front_in
front_more x rest long =
    rw (lt-leb (length x) 9 (omega (arith, long)), lt-leb (length (x ++ rest)) 9 (omega (arith, long, length-append x rest)))
    (ap (λ (d : Option ℕ). behind_magic d (x ++ rest)) (difference_more magic x rest (omega (arith, long))) ∙ behind_more (difference magic x) x rest long)

pub base_more : (x rest : List ℕ) → 25 ≤ length x → base_length (x ++ rest) ≡ base_length x
unfolding base_length
base_more x rest long = ap (number true w64) (part_more 17 8 x rest (omega (arith, long)))

pub version_more : (x rest : List ℕ) → 25 ≤ length x → version_of (x ++ rest) ≡ version_of x
unfolding version_of version_in
version_more x rest long = ap (λ (l : List ℕ). if number true w32 l == 1 then One else Two) (part_more 9 4 x rest (omega (arith, long)))

pub front_part : (x : List ℕ) → front_in (take 25 x) ≡ front_in x
front_part x = elim (cases_lt (length x) 25) [
  | inl short ↦ ap front_in (take_all 25 x (omega (arith, short)))
  | inr long ↦ (let whole = length-take-le 25 x long in sym (front_more (take 25 x) (drop 25 x) (omega (arith, whole))) ∙ ap front_in (take-append-drop 25 x))
]

pub front_min : (x : List ℕ) (n : ℕ) → n ≡ min 25 (length x) → front_in (take n (drop 0 x)) ≡ front_in x
front_min x n is = ap (λ (m : ℕ). front_in (take m x)) is ∙ ap front_in (take_min 25 x) ∙ front_part x

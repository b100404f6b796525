-- The command lines that the options and their numbers make.
use Rattle.std.proofs.Common.{◌≡◌, ◌≢◌, ◌⊎◌, ◌==◌, ◌<◌, ◌≤◌, ◌^◌, ℕ, zero, suc, Bool, true, false, cond, List, [], ◌∷◌, ◌++◌, drop, get_or, Option, Some, None, Result, Err, refl, sym, ap, subst, ◌∙◌, arith, inl, inr, codes, append_assoc}
use Rattle.std.specs.Str.{bytes_eq}
use Rattle.std.specs.Str.Parse.{IsNumeral, digits_value, without_leading_plus}
use Rattle.std.specs.List.{list_any, AllByRecursion}
use Rattle.std.specs.Fmt.{decimal}
use Rattle.std.proofs.lemmas.Bool.Decides.{nat_tests}
use Rattle.std.proofs.lemmas.Fmt.{decimal_is_IsNumeral, decimal_digit, first_decimal}
use Rattle.clap.specs.Walk.{Row, Text, first_of, has_row, rows_of as rows_found}
use Rattle.clap.specs.Simple.{App, built, is_simple, matches_of}
use Rattle.clap.specs.Matches.{found_of, first_value}
use Rattle.clap.specs.Kinds.{Kinds, HasKind, IsAmong as IsKind}
use Rattle.clap.specs.Faults.{fault_of, is_simple_and_free, is_free_app}
use Rattle.clap.specs.Values.{kind_of}
use Rattle.clap.specs.declared.error.Error.{Error}
use Rattle.clap.specs.declared.error.kind.ErrorKind.{ErrorKind}
use Rattle.clap.specs.declared.error.kind.ErrorKind.TheVariants as kind
use Rattle.clap.specs.declared.parser.matches.ArgMatches.{ArgMatches}
use Rattle.clap.proofs.WalkLemmas.{both, first_value-rows}
use Rattle.durability.specs.declared.words.WordsFault.TheVariants.{Usage, OutOfMemory}
use Rattle.durability.specs.Options.{Given, Spells, IsNew, AreNew, IsPlain, IsOptions, value_of, IsNumber, IsHex, IsText, IsCount}
use Rattle.durability.specs.Commands.{command_of, list_names, show_names, dir_names, late_names, HasOptions, AreNames, words_fault}
use Rattle.durability.specs.CommandLine.{IsAt, IsShow, HasDir, IsOver, IsLate}
use Rattle.durability.proofs.Spelling.{eq_of, eq_same, eq_not, bool_no, not_dashes, not_nil}
use Rattle.durability.proofs.Rules.{knows, row}
use Rattle.durability.proofs.Walks.{rows_of, Follows, Known, Plain, NoDashes, NamesOk, dashed_some}
use Rattle.durability.proofs.Values.{hex_plain, text_plain}
use Rattle.durability.proofs.Parses.{matches_are, options_read, options_pass}

-- ---- numbers

first_least : (n : ℕ) → n < 2 ^ 64 → 48 ≤ get_or (decimal n) 0 0
first_least zero h = let e = decimal_digit 0 (omega arith) in omega (arith, ap (λ (t : List ℕ). get_or t 0 0) e)
first_least (suc k) h = omega (arith, first_decimal (suc k) (omega arith) h)

no_plus : (n : ℕ) → n < 2 ^ 64 → without_leading_plus (decimal n) ≡ decimal n
no_plus n h =
    let first : 48 ≤ get_or (decimal n) 0 0 = first_least n h in
    let other : (get_or (decimal n) 0 0 == 43) ≡ false = grind (arith, nat_tests) in
    ap (λ (b : Bool). drop (cond b 1 0) (decimal n)) other

pub numeral : (text : List ℕ) (n : ℕ) → n < 2 ^ 64 → text ≡ decimal n → IsNumeral 10 (without_leading_plus text) × (digits_value 10 (without_leading_plus text) ≡ n)
numeral text n h is = subst (λ (t : List ℕ). IsNumeral 10 t × (digits_value 10 t ≡ n)) (sym (ap without_leading_plus is ∙ no_plus n h)) (decimal_is_IsNumeral n h)

pub decimal_once : (n m : ℕ) → n < 2 ^ 64 → m < 2 ^ 64 → decimal n ≡ decimal m → n ≡ m
decimal_once n m h k e = sym (decimal_is_IsNumeral n h).1 ∙ ap (digits_value 10) e ∙ (decimal_is_IsNumeral m k).1

plain_first : (t : List ℕ) → 48 ≤ get_or t 0 0 → IsPlain t
plain_first [] h = tt
plain_first (x ∷ xs) h = let least : 48 ≤ x = h in grind (arith, nat_tests)

pub number_plain : (o : Option Text) (n : ℕ) → n < 2 ^ 64 → IsNumber o n → (v : Text) → o ≡ Some v → IsPlain v
number_plain None n h is v o = absurd cc
number_plain (Some t) n h is v o = let same : t ≡ v = cc in subst IsPlain (sym is ∙ same) (plain_first (decimal n) (first_least n h))

pub number_once : (o : Option Text) (n m : ℕ) → n < 2 ^ 64 → m < 2 ^ 64 → IsNumber o n → IsNumber o m → n ≡ m
number_once None n m h k a b = a ∙ sym b
number_once (Some t) n m h k a b = decimal_once n m h k (sym a ∙ b)

pub not_same : (a b : List ℕ) (r : Bool) → r ≡ bytes_eq a b → r ≡ false → a ≡ b → ⊥
not_same a b r is differs same = bool_no r (is ∙ ap (bytes_eq a) (sym same) ∙ eq_same a) differs

-- ---- options

new_to : (name : Text) (seen : List Given) → IsNew name seen → has_row name (rows_of seen) ≡ false
new_to name [] h = refl
new_to name (o ∷ seen) h = rw (eq_not o.name name h.0) (new_to name seen h.1)

new_from : (name : Text) (seen : List Given) → has_row name (rows_of seen) ≡ false → IsNew name seen
new_from name [] h = tt
new_from name (o ∷ seen) h = go (bytes_eq o.name name) refl (λ m. new_from name seen m) where
  go : (b : Bool) → bytes_eq o.name name ≡ b → (has_row name (rows_of seen) ≡ false → IsNew name seen) → IsNew name (o ∷ seen)
  go true e later = let no = rw e at h in absurd cc
  go false e later = (λ is. bool_no (bytes_eq o.name name) (ap (bytes_eq o.name) (sym is) ∙ eq_same o.name) e, later (rw e at h))

follows_to : (seen given : List Given) → AreNew seen given → Follows seen given
follows_to seen [] h = tt
follows_to seen (o ∷ more) h = (new_to o.name seen h.0, follows_to (seen ++ o ∷ []) more h.1)

follows_from : (seen given : List Given) → Follows seen given → AreNew seen given
follows_from seen [] h = tt
follows_from seen (o ∷ more) h = (new_from o.name seen h.0, follows_from (seen ++ o ∷ []) more h.1)

names_ok : (names : List Text) → AreNames names → NamesOk names
names_ok [] ok = λ n k. absurd cc
names_ok (x ∷ names) ok = λ n k. go n k (bytes_eq x n) refl (names_ok names ok.1) where
  go : (n : Text) → knows (x ∷ names) n ≡ true → (b : Bool) → bytes_eq x n ≡ b → NamesOk names → (n ≢ []) × (list_any (λ y. y == 61) n ≡ false)
  go n k true e later = subst (λ (m : Text). (m ≢ []) × (list_any (λ y. y == 61) m ≡ false)) (eq_of x n e) ok.0
  go n k false e later = later n (rw e at k)

first_is : (name : Text) (given : List Given) → first_of name (rows_of given) ≡ value_of name given
first_is name [] = refl
first_is name (o ∷ more) = go (bytes_eq o.name name) refl (first_is name more) where
  go : (b : Bool) → bytes_eq o.name name ≡ b → first_of name (rows_of more) ≡ value_of name more → first_of name (rows_of (o ∷ more)) ≡ value_of name (o ∷ more)
  go true e later = rw e refl
  go false e later = rw e later

pub rows_once : (a b : List Given) → rows_of a ≡ rows_of b → a ≡ b
rows_once [] [] h = refl
rows_once [] (y ∷ b) h = absurd cc
rows_once (x ∷ a) [] h = absurd cc
rows_once (x ∷ a) (y ∷ b) h =
    let heads : row x.name x.value ≡ row y.name y.value = cc in
    let names : x.name ≡ y.name = ap (λ (r : Row). r.id) heads in
    let lists : x.value ∷ [] ≡ y.value ∷ [] = ap (λ (r : Row). r.values) heads in
    let values : x.value ≡ y.value = cc in
    let tails : rows_of a ≡ rows_of b = cc in
    let first : x ≡ y = ap (λ (n : Text). let g : Given = record { name = n; value = x.value } in g) names ∙ ap (λ (v : Text). let g : Given = record { name = y.name; value = v } in g) values in
    ap (λ (g : Given). g ∷ a) first ∙ ap (λ (l : List Given). y ∷ l) (rows_once a b tails)

no_dashes : (names : List Text) → NamesOk names → (given : List Given) (words : List Text) → Spells words given → Known names given → Plain given → NoDashes words
no_dashes names ok [] words spells known plain = subst NoDashes (sym spells) tt
no_dashes names ok (o ∷ more) words spells known plain =
    let later : NoDashes spells.0 = no_dashes names ok more spells.0 spells.2 known.1 plain.1 in
    elim spells.1 [
      | inl is ↦ subst NoDashes (sym is) (dashed_some o.name (ok o.name known.0).0, (not_dashes o.value plain.0, later))
      | inr is ↦ subst NoDashes (sym is) (dashed_some (o.name ++ 61 ∷ o.value) (not_nil o.name o.value), later)
    ]

any_from : (words : List Text) → list_any (λ w. bytes_eq w (45 ∷ 45 ∷ [])) words ≡ false → NoDashes words
any_from [] h = tt
any_from (w ∷ words) h = go (bytes_eq w (45 ∷ 45 ∷ [])) refl (λ m. any_from words m) where
  go : (b : Bool) → bytes_eq w (45 ∷ 45 ∷ []) ≡ b → (list_any (λ v. bytes_eq v (45 ∷ 45 ∷ [])) words ≡ false → NoDashes words) → NoDashes (w ∷ words)
  go true e later = let no = rw e at h in absurd cc
  go false e later = (e, later (rw e at h))

any_to : (words : List Text) → NoDashes words → list_any (λ w. bytes_eq w (45 ∷ 45 ∷ [])) words ≡ false
any_to [] h = refl
any_to (w ∷ words) h = rw h.0 (any_to words h.1)

-- ---- what clap answers

usage_never : (k : ErrorKind) (kinds : Kinds) → (k ≡ kind.OutOfMemory) ⊎ IsKind k kinds → kinds ≡ [] → words_fault k ≡ Usage → ⊥
usage_never k kinds has none is = elim has [
  | inl memory ↦ let no : OutOfMemory ≡ Usage = ap words_fault (sym memory) ∙ is in absurd cc
  | inr among ↦ subst (IsKind k) none among
]

pub passes : (name : Text) (names words : List Text) (given : List Given) → AreNames names → IsOptions names words given → (fault_of (command_of name names) words ≡ []) × (matches_of (command_of name names) words ≡ rows_of given)
passes name names words given ok o = options_pass name names words given (names_ok names ok) o.spells o.known o.plain (follows_to [] given o.once)

pub dashes_refused : (names words : List Text) (given : List Given) → AreNames names → IsOptions names words given → list_any (λ w. bytes_eq w (45 ∷ 45 ∷ [])) words ≡ true → ⊥
dashes_refused names words given ok o any = bool_no _ any (any_to words (no_dashes names (names_ok names ok) given words o.spells o.known o.plain))

pub error_refused : (name : Text) (names words : List Text) (given : List Given) (e : Error) → AreNames names → IsOptions names words given → HasKind (fault_of (command_of name names) words) e → words_fault (kind_of e) ≡ Usage → ⊥
error_refused name names words given e ok o has is = usage_never (kind_of e) (fault_of (command_of name names) words) has (passes name names words given ok o).0 is

pub has_options : (name : Text) (names words : List Text) (m : ArgMatches) → AreNames names → list_any (λ w. bytes_eq w (45 ∷ 45 ∷ [])) words ≡ false → fault_of (command_of name names) words ≡ [] → rows_found (found_of m) ≡ matches_of (command_of name names) words
    → HasOptions names words m
has_options name names words m ok dashes passed found =
    let r = options_read name names words (any_from words dashes) passed in
    let rows : matches_of (command_of name names) words ≡ rows_of r.given = matches_are name names words ∙ r.rows in
    record {
      given = r.given;
      spells = r.spells;
      known = r.known;
      once = follows_from [] r.given r.follows;
      values = λ n. first_value-rows (found_of m) n ∙ ap (first_of n) (found ∙ rows) ∙ first_is n r.given;
      only = λ other o. rows_once other r.given (sym (passes name names words other ok o).1 ∙ rows);
    }

-- ---- plain values

value_past : (seen : List Given) (o : Given) (more : List Given) → IsNew o.name seen → value_of o.name (seen ++ o ∷ more) ≡ Some o.value
value_past [] o more h = rw (eq_same o.name) refl
value_past (x ∷ seen) o more h = rw (eq_not x.name o.name h.0) (value_past seen o more h.1)

plain_all : (names : List Text) (all : List Given) → ((n : Text) → knows names n ≡ true → (v : Text) → value_of n all ≡ Some v → IsPlain v) → (seen given : List Given) → all ≡ seen ++ given → AreNew seen given → Known names given → Plain given
plain_all names all each seen [] is new known = tt
plain_all names all each seen (o ∷ more) is new known = (
  each o.name known.0 o.value (ap (value_of o.name) is ∙ value_past seen o more new.0),
  plain_all names all each (seen ++ o ∷ []) more (is ∙ sym (append_assoc seen (o ∷ []) more)) new.1 known.1,
)

-- what holds of each name holds of a name that is among them
named : (P : Text → Type 0) (names : List Text) → AllByRecursion P names → (n : Text) → knows names n ≡ true → P n
named P [] each n k = absurd cc
named P (x ∷ names) each n k = go (bytes_eq x n) refl (λ m. named P names each.1 n m) where
  go : (b : Bool) → bytes_eq x n ≡ b → (knows names n ≡ true → P n) → P n
  go true e later = subst P (eq_of x n e) each.0
  go false e later = later (rw e at k)

-- the value that is given to this option begins with no dash
abbrev pub HasPlain : List Given → Text → Type 0
HasPlain given n = (v : Text) → value_of n given ≡ Some v → IsPlain v

-- the options that clap found are those of a command line where each value begins with no dash
are_options : (names words : List Text) (m : ArgMatches) (h : HasOptions names words m) → AllByRecursion (HasPlain h.given) names → IsOptions names words h.given
are_options names words m h each = record {
  spells = h.spells;
  known = h.known;
  once = h.once;
  plain = plain_all names h.given (λ n k v is. named (HasPlain h.given) names each n k v is) [] h.given refl h.once h.known;
}

pub list_is : (word : Text) (words : List Text) (m : ArgMatches) (at epoch : ℕ) (a e : Option Text) → (h : HasOptions list_names words m) → a ≡ first_value (found_of m) (codes "at") → e ≡ first_value (found_of m) (codes "epoch") → IsNumber a at → at < 2 ^ 64 → IsNumber e epoch → epoch < 2 ^ 32
    → IsAt word (word ∷ words) at epoch
list_is word words m at epoch a e h ais eis an al en el =
    let ats : IsNumber (value_of (codes "at") h.given) at = subst (λ (o : Option Text). IsNumber o at) (ais ∙ h.values (codes "at")) an in
    let es : IsNumber (value_of (codes "epoch") h.given) epoch = subst (λ (o : Option Text). IsNumber o epoch) (eis ∙ h.values (codes "epoch")) en in
    record {
      rest = words;
      given = h.given;
      words_are = refl;
      options = are_options list_names words m h (
        number_plain (value_of (codes "at") h.given) at al ats,
        (number_plain (value_of (codes "epoch") h.given) epoch (omega (arith, el)) es, tt),
      );
      at_is = (ats, al);
      epoch_is = (es, el);
    }

pub show_is : (words : List Text) (m : ArgMatches) (epoch : ℕ) (e : Option Text) → (h : HasOptions show_names words m) → e ≡ first_value (found_of m) (codes "epoch") → IsNumber e epoch → epoch < 2 ^ 32 → IsShow (codes "show" ∷ words) epoch
show_is words m epoch e h eis en el =
    let es : IsNumber (value_of (codes "epoch") h.given) epoch = subst (λ (o : Option Text). IsNumber o epoch) (eis ∙ h.values (codes "epoch")) en in
    record {
      rest = words;
      given = h.given;
      words_are = refl;
      options = are_options show_names words m h (number_plain (value_of (codes "epoch") h.given) epoch (omega (arith, el)) es, tt);
      epoch_is = (es, el);
    }

-- what was found in clap's answer is given
as_given : (P : Option Text → Type 0) (names words : List Text) (m : ArgMatches) (h : HasOptions names words m) (name : Text) (o : Option Text) → o ≡ first_value (found_of m) name → P o → P (value_of name h.given)
as_given P names words m h name o is holds = subst P (is ∙ h.values name) holds

pub dir_is : (words : List Text) (m : ArgMatches) (dir : List ℕ) (d : Option Text) → (h : HasOptions dir_names words m) → d ≡ first_value (found_of m) (codes "dir") → IsText d dir → HasDir words dir
dir_is words m dir d h dis dt =
    let ds : IsText (value_of (codes "dir") h.given) dir = as_given (λ o. IsText o dir) dir_names words m h (codes "dir") d dis dt in
    record {
      given = h.given;
      options = are_options dir_names words m h (text_plain (value_of (codes "dir") h.given) dir ds, tt);
      dir_is = ds;
    }

pub over_is : (word : Text) (words : List Text) (dir : List ℕ) → HasDir words dir → IsOver word (word ∷ words) dir
over_is word words dir h = record { rest = words; words_are = refl; has = h }

pub late_is : (words : List Text) (m : ArgMatches) (reader prefix writer peer : List ℕ) (turns : ℕ) (r p w e t : Option Text) → (h : HasOptions late_names words m)
    → r ≡ first_value (found_of m) (codes "reader") → p ≡ first_value (found_of m) (codes "prefix") → w ≡ first_value (found_of m) (codes "writer") → e ≡ first_value (found_of m) (codes "peer") → t ≡ first_value (found_of m) (codes "turns")
    → IsHex 16 r reader → IsHex 8 p prefix → IsHex 4 w writer → IsText e peer → IsCount t turns → turns < 2 ^ 32
    → IsLate (codes "late" ∷ words) reader prefix writer peer turns
late_is words m reader prefix writer peer turns r p w e t h ris pis wis eis tis rh ph wh et tn tl =
    let rs : IsHex 16 (value_of (codes "reader") h.given) reader = as_given (λ o. IsHex 16 o reader) late_names words m h (codes "reader") r ris rh in
    let ps : IsHex 8 (value_of (codes "prefix") h.given) prefix = as_given (λ o. IsHex 8 o prefix) late_names words m h (codes "prefix") p pis ph in
    let ws : IsHex 4 (value_of (codes "writer") h.given) writer = as_given (λ o. IsHex 4 o writer) late_names words m h (codes "writer") w wis wh in
    let es : IsText (value_of (codes "peer") h.given) peer = as_given (λ o. IsText o peer) late_names words m h (codes "peer") e eis et in
    let ts : IsCount (value_of (codes "turns") h.given) turns = as_given (λ o. IsCount o turns) late_names words m h (codes "turns") t tis tn in
    record {
      rest = words;
      given = h.given;
      words_are = refl;
      options = are_options late_names words m h (
        hex_plain 16 (value_of (codes "reader") h.given) reader rs,
        (
          hex_plain 8 (value_of (codes "prefix") h.given) prefix ps,
          (
            hex_plain 4 (value_of (codes "writer") h.given) writer ws,
            (
              text_plain (value_of (codes "peer") h.given) peer es,
              (number_plain (value_of (codes "turns") h.given) turns (omega (arith, tl)) ts.0, tt),
            ),
          ),
        ),
      );
      reader_is = rs;
      prefix_is = ps;
      writer_is = ws;
      peer_is = es;
      turns_is = (ts, tl);
    }

-- ---- values that are none

-- the value of an option that is none
pub value_no : (P : Option Text → Type 0) (names words : List Text) (m : ArgMatches) (h : HasOptions names words m) (name : Text) (o : Option Text) (given : List Given) → o ≡ first_value (found_of m) name → (P o → ⊥)
    → IsOptions names words given → P (value_of name given) → ⊥
value_no P names words m h name o given is never options holds =
    never (subst P (ap (value_of name) (h.only given options) ∙ sym (h.values name) ∙ sym is) holds)

-- a number of an option that is none
pub number_no : (names words : List Text) (m : ArgMatches) (h : HasOptions names words m) (name : Text) (o : Option Text) (given : List Given) (n most : ℕ) → o ≡ first_value (found_of m) name → ((k : ℕ) → IsNumber o k → k ≤ most → ⊥)
    → IsOptions names words given → IsNumber (value_of name given) n → n ≤ most → ⊥
number_no names words m h name o given n most is never options number small =
    never n (subst (λ (x : Option Text). IsNumber x n) (ap (value_of name) (h.only given options) ∙ sym (h.values name) ∙ sym is) number) small

pub simple_of : (a : App) → is_simple_and_free a ≡ true → is_simple a ≡ true
simple_of a h = (both (is_simple a) (is_free_app (built a)) h).0

-- an error that is passed on
pub same_err : {A B E : Type 0} (x y z : E) → (let r : Result A E = Err x in r ≡ Err z) → x ≡ y → (let r : Result B E = Err y in r ≡ Err z)
same_err {A} {B} {E} x y z is same = let last : x ≡ z = cc in ap (λ (e : E). let r : Result B E = Err e in r) (sym same ∙ last)

-- ---- the names of options

pub list_are : AreNames list_names
list_are = ((λ is. absurd cc, refl), ((λ is. absurd cc, refl), tt))

pub show_are : AreNames show_names
show_are = ((λ is. absurd cc, refl), tt)

pub dir_are : AreNames dir_names
dir_are = ((λ is. absurd cc, refl), tt)

pub late_are : AreNames late_names
late_are = ((λ is. absurd cc, refl), ((λ is. absurd cc, refl), ((λ is. absurd cc, refl), ((λ is. absurd cc, refl), ((λ is. absurd cc, refl), tt)))))

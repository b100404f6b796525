-- The last announcement that counts of a GUID, and the farewells behind it.
use Rattle.std.proofs.Common.{◌≡◌, ◌≢◌, ℕ, ◌+◌, ◌<◌, ◌≤◌, Bool, true, false, ◌&&◌, ◌||◌, List, [], ◌∷◌, ◌++◌, length, Option, Some, None, refl, sym, ap, subst, ◌∙◌, append_assoc, arith, inl, inr, if◌then◌else◌}
use Rattle.std.specs.Prelude.{nat_lt}
use Rattle.std.specs.List.{AllByRecursion, list_any}
use Rattle.std.specs.Option.{option_or}
use Rattle.std.specs.Str.{bytes_eq}
use Rattle.std.proofs.lemmas.Bool.{both_ways, false_from_ne_true, cases_Bool, lt-ltb, le-ltb}
use Rattle.std.proofs.lemmas.List.{length-append}
use Rattle.std.proofs.lemmas.Slice.Eq.{bytes_eq-Decides}
use Rattle.rtps_discovery.specs.declared.announcement.Announcement.{Announcement}
use Rattle.rtps_discovery.specs.declared.announcement.Announcement.TheVariants.{Participant, Writer, Reader, Gone}
use Rattle.rtps_discovery.specs.declared.announcement.Told.{Told}
use Rattle.rtps_discovery.specs.Announcing.{guid_of}
use Rattle.rtps_discovery.specs.Entries.{is_gone}
use Rattle.rtps_discovery.specs.Hearing.{last_in, is_farewell, farewell_from}
use Rattle.rtps_discovery.specs.Learnt.{about, IsLast}
use Rattle.rtps_discovery.proofs.Payloads.{not_none, same_some}

-- ---- the last one

abbrev NotAbout : List ℕ → List Told → Type 0
NotAbout guid ts = AllByRecursion (λ t. about t ≢ guid) ts

abbrev here_if : Bool → Told → List Told → Option (Told × List Told)
here_if b t ts = if b then Some (t, ts) else None

or_none : (o : Option (Told × List Told)) (b : Bool) (t : Told) (ts : List Told) → option_or o (here_if b t ts) ≡ None → (o ≡ None) × (b ≡ false)
or_none None true t ts e = absurd (not_none (Some (t, ts)) (t, ts) e refl)
or_none None false t ts e = (refl, refl)
or_none (Some p) b t ts e = absurd (not_none (Some p) p e refl)

none_about : (guid : List ℕ) (cs : List Told) → last_in guid cs ≡ None → NotAbout guid cs
none_about guid [] e = tt
none_about guid (t ∷ ts) e =
    let both : (last_in guid ts ≡ None) × (bytes_eq (about t) guid ≡ false) = or_none (last_in guid ts) (bytes_eq (about t) guid) t ts e in
    (λ same. both_ways (bytes_eq (about t) guid) both.1 ((bytes_eq-Decides (about t) guid).1 same), none_about guid ts both.0)

about_none : (guid : List ℕ) (cs : List Told) → NotAbout guid cs → last_in guid cs ≡ None
about_none guid [] none = refl
about_none guid (t ∷ ts) none =
    rw (about_none guid ts none.1, false_from_ne_true (bytes_eq (about t) guid) (λ e. none.0 ((bytes_eq-Decides (about t) guid).0 e))) refl

-- where it was found: further on, or here
data Found (o : Option (Told × List Told)) (b : Bool) (t : Told) (ts : List Told) (last : Told) (after : List Told) : Type 0 where
  later : o ≡ Some (last, after) → Found o b t ts last after
  here : o ≡ None → b ≡ true → t ≡ last → ts ≡ after → Found o b t ts last after

found : (o : Option (Told × List Told)) (b : Bool) (t : Told) (ts : List Told) (last : Told) (after : List Told) → option_or o (here_if b t ts) ≡ Some (last, after) → Found o b t ts last after
found None true t ts last after e =
    let pair : (t, ts) ≡ (last, after) = same_some (Some (t, ts)) (t, ts) (last, after) refl e in
    here refl refl (ap (λ (p : Told × List Told). p.0) pair) (ap (λ (p : Told × List Told). p.1) pair)
found None false t ts last after e = absurd (not_none None (last, after) refl e)
found (Some p) b t ts last after e = later e

more_before : (guid : List ℕ) (t : Told) (ts : List Told) (last : Told) (after : List Told) → IsLast ts guid last after → IsLast (t ∷ ts) guid last after
more_before guid t ts last after is = record { before = t ∷ is.before; parts = ap (λ (xs : List Told). t ∷ xs) is.parts; whose = is.whose; no_later = is.no_later }

pub last_back : (guid : List ℕ) (cs : List Told) (last : Told) (after : List Told) → last_in guid cs ≡ Some (last, after) → IsLast cs guid last after
last_back guid [] last after e = absurd (not_none None (last, after) refl e)
last_back guid (t ∷ ts) last after e =
    elim (found (last_in guid ts) (bytes_eq (about t) guid) t ts last after e) [
      | later more ↦ more_before guid t ts last after (last_back guid ts last after more)
      | here none is one rest ↦
          record {
            before = [];
            parts = ap (λ (x : Told). x ∷ ts) one ∙ ap (λ (xs : List Told). last ∷ xs) rest;
            whose = ap about (sym one) ∙ (bytes_eq-Decides (about t) guid).0 is;
            no_later = subst (NotAbout guid) rest (none_about guid ts none);
          }
    ]

last_behind : (guid : List ℕ) (before : List Told) (last : Told) (after : List Told) → about last ≡ guid → NotAbout guid after → last_in guid (before ++ last ∷ after) ≡ Some (last, after)
last_behind guid [] last after whose none = rw (about_none guid after none, (bytes_eq-Decides (about last) guid).1 whose) refl
last_behind guid (t ∷ before) last after whose none = rw (last_behind guid before last after whose none) refl

pub last_again : (guid : List ℕ) (cs : List Told) (last : Told) (after : List Told) → IsLast cs guid last after → last_in guid cs ≡ Some (last, after)
last_again guid cs last after is = ap (last_in guid) is.parts ∙ last_behind guid is.before last after is.whose is.no_later

-- ---- farewells

pub farewell_is : (guid : List ℕ) (what : Announcement) → what ≡ Gone guid → (is_gone what && bytes_eq (guid_of what) guid) ≡ true
farewell_is guid what e = rw e ((bytes_eq-Decides guid guid).1 refl)

pub is_farewell_of : (guid : List ℕ) (what : Announcement) → (is_gone what && bytes_eq (guid_of what) guid) ≡ true → what ≡ Gone guid
is_farewell_of guid (Participant g lease) e = absurd (both_ways false refl e)
is_farewell_of guid (Writer g topic kind) e = absurd (both_ways false refl e)
is_farewell_of guid (Reader g topic kind) e = absurd (both_ways false refl e)
is_farewell_of guid (Gone g) e = ap Gone ((bytes_eq-Decides g guid).0 e)

abbrev pub Stays : List ℕ → List Told → Type 0
Stays guid ts = AllByRecursion (λ t. t.what ≢ Gone guid) ts

or_false : (a b : Bool) → (a || b) ≡ false → (a ≡ false) × (b ≡ false)
or_false false false e = (refl, refl)
or_false false true e = absurd (both_ways true e refl)
or_false true b e = absurd (both_ways true e refl)

pub stays_from : (guid : List ℕ) (ts : List Told) → list_any (is_farewell guid) ts ≡ false → Stays guid ts
stays_from guid [] e = tt
stays_from guid (t ∷ ts) e =
    let both = or_false (is_farewell guid t) (list_any (is_farewell guid) ts) e in
    (λ gone. both_ways (is_farewell guid t) both.0 (farewell_is guid t.what gone), stays_from guid ts both.1)

pub stays_any : (guid : List ℕ) (ts : List Told) → Stays guid ts → list_any (is_farewell guid) ts ≡ false
stays_any guid [] stays = refl
stays_any guid (t ∷ ts) stays =
    rw (false_from_ne_true (is_farewell guid t) (λ e. stays.0 (is_farewell_of guid t.what e))) (stays_any guid ts stays.1)

farewell_parts : (guid : List ℕ) (n l : ℕ) (xs ys : List Told) → farewell_from guid n l (xs ++ ys) ≡ farewell_from guid (n + length xs) (farewell_from guid n l xs) ys
farewell_parts guid n l [] ys = ap (λ (k : ℕ). farewell_from guid k l ys) (omega arith)
farewell_parts guid n l (x ∷ xs) ys =
    let l' = if is_farewell guid x then n + 1 else l in
    farewell_parts guid (n + 1) l' xs ys ∙ ap (λ (k : ℕ). farewell_from guid k (farewell_from guid (n + 1) l' xs) ys) (omega arith)

if_upto : (b : Bool) (n l : ℕ) → l ≤ n → (if b then n + 1 else l) ≤ n + 1
if_upto true n l le = omega arith
if_upto false n l le = omega arith

if_least : (b : Bool) (n l : ℕ) → l ≤ n → l ≤ (if b then n + 1 else l)
if_least true n l le = omega arith
if_least false n l le = omega arith

farewell_upto : (guid : List ℕ) (n l : ℕ) (xs : List Told) → l ≤ n → farewell_from guid n l xs ≤ n + length xs
farewell_upto guid n l [] le = omega arith
farewell_upto guid n l (x ∷ xs) le = omega (arith, farewell_upto guid (n + 1) (if is_farewell guid x then n + 1 else l) xs (if_upto (is_farewell guid x) n l le))

farewell_least : (guid : List ℕ) (n l : ℕ) (xs : List Told) → l ≤ n → l ≤ farewell_from guid n l xs
farewell_least guid n l [] le = omega arith
farewell_least guid n l (x ∷ xs) le = omega (arith, if_least (is_farewell guid x) n l le, farewell_least guid (n + 1) (if is_farewell guid x then n + 1 else l) xs (if_upto (is_farewell guid x) n l le))

farewell_none : (guid : List ℕ) (n l : ℕ) (xs : List Told) → list_any (is_farewell guid) xs ≡ false → farewell_from guid n l xs ≡ l
farewell_none guid n l [] e = refl
farewell_none guid n l (x ∷ xs) e =
    let both = or_false (is_farewell guid x) (list_any (is_farewell guid) xs) e in
    farewell_none guid (n + 1) (if is_farewell guid x then n + 1 else l) xs both.1 ∙ rw both.0 refl

farewell_some : (guid : List ℕ) (n l : ℕ) (xs : List Told) → l ≤ n → list_any (is_farewell guid) xs ≡ true → n < farewell_from guid n l xs
farewell_some guid n l [] le e = absurd (both_ways false refl e)
farewell_some guid n l (x ∷ xs) le e =
    elim (cases_Bool (is_farewell guid x)) [
      | inl gone ↦
          let least : n + 1 ≤ farewell_from guid (n + 1) (n + 1) xs = farewell_least guid (n + 1) (n + 1) xs (omega arith) in
          let same : farewell_from guid (n + 1) (if is_farewell guid x then n + 1 else l) xs ≡ farewell_from guid (n + 1) (n + 1) xs = rw gone refl in
          omega (arith, least, same)
      | inr stay ↦
          let any : list_any (is_farewell guid) xs ≡ true = rw stay at e in
          omega (arith, farewell_some guid (n + 1) (if is_farewell guid x then n + 1 else l) xs (if_upto (is_farewell guid x) n l le) any)
    ]

-- the last farewell stands behind a place exactly where one stands among those after it
pub farewell_after : (guid : List ℕ) (before : List Told) (last : Told) (after : List Told) (place : ℕ) → place ≡ length before + 1 → nat_lt place (farewell_from guid 0 0 (before ++ last ∷ after)) ≡ list_any (is_farewell guid) after
farewell_after guid before last after place at =
    let front = before ++ last ∷ [] in
    let len : length front ≡ place = length-append before (last ∷ []) ∙ sym at in
    let l = farewell_from guid 0 0 front in
    let upto : l ≤ place = omega (arith, farewell_upto guid 0 0 front (omega arith), len) in
    let parts : farewell_from guid 0 0 (before ++ last ∷ after) ≡ farewell_from guid place l after =
    ap (farewell_from guid 0 0) (sym (append_assoc before (last ∷ []) after)) ∙ farewell_parts guid 0 0 front after ∙ ap (λ (k : ℕ). farewell_from guid k l after) (omega (arith, len)) in
    elim (cases_Bool (list_any (is_farewell guid) after)) [
      | inl gone ↦ rw (parts, gone) (lt-ltb place (farewell_from guid place l after) (farewell_some guid place l after upto gone))
      | inr stay ↦ rw (parts, farewell_none guid place l after stay, stay) (le-ltb place l upto)
    ]

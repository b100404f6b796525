-- What one announcement more changes in what is kept.
use Rattle.std.proofs.Common.{◌≡◌, ℕ, suc, ◌+◌, ◌<◌, ◌≤◌, Bool, true, false, not, ◌&&◌, ◌||◌, List, [], ◌∷◌, ◌++◌, length, take, Option, Some, None, refl, sym, ap, subst, ◌∙◌, append_assoc, append-nil, arith, if◌then◌else◌}
use Rattle.std.specs.Prelude.{nat_lt, nat_le, nat_eq, cond}
use Rattle.std.specs.Option.{option_or}
use Rattle.std.specs.Str.{bytes_eq}
use Rattle.std.proofs.lemmas.Bool.Decides.{nat_tests}
use Rattle.std.proofs.lemmas.List.{length-append}
use Rattle.std.proofs.lemmas.List.Folds.{list_all-append}
use Rattle.std.proofs.lemmas.Slice.Eq.{bytes_eq-Decides}
use Rattle.rtps_discovery.specs.declared.announcement.Told.{Told}
use Rattle.rtps_discovery.specs.declared.entry.Entry.{Entry}
use Rattle.rtps_discovery.specs.declared.entry.Numbers.{Numbers}
use Rattle.rtps_discovery.specs.declared.source.Source.{Source}
use Rattle.rtps_discovery.specs.declared.source.Source.TheVariants.{Participants, Publications, Subscriptions}
use Rattle.rtps_discovery.specs.Entries.{no_numbers, number_of, with_number, numbers_in, farewell_in, is_gone, entry_with}
use Rattle.rtps_discovery.specs.Hearing.{last_in, is_farewell, farewell_from, IsLastKept, IsKept, KeepsBy}
use Rattle.rtps_discovery.specs.Learnt.{about, none_above, counts, counted_after, counted}
use Rattle.rtps_discovery.specs.Sources.{id_of}

-- ---- one more behind a list

abbrev one_if : Bool → Told → List Told
one_if true t = t ∷ []
one_if false t = []

parted : (b : Bool) (x : Told) (xs ys : List Told) → (if b then x ∷ (xs ++ ys) else xs ++ ys) ≡ (if b then x ∷ xs else xs) ++ ys
parted true x xs ys = refl
parted false x xs ys = refl

single : (b : Bool) (t : Told) → (if b then t ∷ [] else []) ≡ one_if b t
single true t = refl
single false t = refl

counted_after_push : (before ts : List Told) (t : Told) → counted_after before (ts ++ t ∷ []) ≡ counted_after before ts ++ one_if (counts (before ++ ts) t) t
counted_after_push before [] t = single (counts before t) t ∙ ap (λ (xs : List Told). one_if (counts xs t) t) (sym (append-nil before))
counted_after_push before (x ∷ ts) t =
    let later : counted_after (before ++ x ∷ []) (ts ++ t ∷ []) ≡ counted_after (before ++ x ∷ []) ts ++ one_if (counts (before ++ x ∷ ts) t) t = counted_after_push (before ++ x ∷ []) ts t ∙ ap (λ (xs : List Told). counted_after (before ++ x ∷ []) ts ++ one_if (counts xs t) t) (append_assoc before (x ∷ []) ts) in
    ap (λ (xs : List Told). if counts before x then x ∷ xs else xs) later ∙ parted (counts before x) x (counted_after (before ++ x ∷ []) ts) (one_if (counts (before ++ x ∷ ts) t) t)

pub counted_push : (ts : List Told) (t : Told) → counts ts t ≡ true → counted (ts ++ t ∷ []) ≡ counted ts ++ t ∷ []
counted_push ts t e = counted_after_push [] ts t ∙ ap (λ b. counted ts ++ one_if b t) e

pub counted_pass : (ts : List Told) (t : Told) → counts ts t ≡ false → counted (ts ++ t ∷ []) ≡ counted ts
counted_pass ts t e = counted_after_push [] ts t ∙ ap (λ b. counted ts ++ one_if b t) e ∙ append-nil (counted ts)

abbrev longer : Told → Option (Told × List Told) → Option (Told × List Told)
longer t None = None
longer t (Some p) = Some (p.0, p.1 ++ t ∷ [])

last_one : (b : Bool) (t : Told) → option_or None (if b then Some (t, []) else None) ≡ (if b then Some (t, []) else longer t None)
last_one true t = refl
last_one false t = refl

last_more : (b c : Bool) (x t : Told) (ts : List Told) (o : Option (Told × List Told)) → option_or (if b then Some (t, []) else longer t o) (if c then Some (x, ts ++ t ∷ []) else None) ≡ (if b then Some (t, []) else longer t (option_or o (if c then Some (x, ts) else None)))
last_more true c x t ts o = refl
last_more false true x t ts None = refl
last_more false false x t ts None = refl
last_more false c x t ts (Some p) = refl

pub last_push : (guid : List ℕ) (ts : List Told) (t : Told) → last_in guid (ts ++ t ∷ []) ≡ (if bytes_eq (about t) guid then Some (t, []) else longer t (last_in guid ts))
last_push guid [] t = last_one (bytes_eq (about t) guid) t
last_push guid (x ∷ ts) t =
    ap (λ (o : Option (Told × List Told)). option_or o (if bytes_eq (about x) guid then Some (x, ts ++ t ∷ []) else None)) (last_push guid ts t) ∙ last_more (bytes_eq (about t) guid) (bytes_eq (about x) guid) x t ts (last_in guid ts)

farewell_more : (b : Bool) (n m k l : ℕ) → n ≡ m → (if b then n else l) ≡ (if b then m else l)
farewell_more b n m k l e = ap (λ (x : ℕ). if b then x else l) e

pub farewell_push : (guid : List ℕ) (before last : ℕ) (ts : List Told) (t : Told) → farewell_from guid before last (ts ++ t ∷ []) ≡ (if is_farewell guid t then before + length ts + 1 else farewell_from guid before last ts)
farewell_push guid before last [] t = farewell_more (is_farewell guid t) (before + 1) (before + 0 + 1) 0 last (omega arith)
farewell_push guid before last (x ∷ ts) t =
    let here = if is_farewell guid x then before + 1 else last in
    farewell_push guid (before + 1) here ts t ∙ farewell_more (is_farewell guid t) (before + 1 + length ts + 1) (before + suc (length ts) + 1) 0 (farewell_from guid (before + 1) here ts) (omega arith)

abbrev is_alike : List ℕ → List ℕ → Told → Bool
is_alike writer guid t = bytes_eq t.writer writer && bytes_eq (about t) guid

none_push : (writer guid : List ℕ) (n : ℕ) (ts : List Told) (t : Told) → none_above writer guid n (ts ++ t ∷ []) ≡ (none_above writer guid n ts && ((not (is_alike writer guid t) || nat_le t.number n) && true))
none_push writer guid n ts t = list_all-append (λ b. not (is_alike writer guid b) || nat_le b.number n) ts (t ∷ [])

-- ---- the greatest number

num_other : (k m n : ℕ) → (nat_le k n && ((not false || nat_le m n) && true)) ≡ nat_le k n
num_other k m n = grind (arith, nat_tests)

num_less : (k m n : ℕ) → m < k → (nat_le k n && ((not true || nat_le m n) && true)) ≡ nat_le k n
num_less k m n lt = grind (arith, nat_tests)

num_more : (k m n : ℕ) → k ≤ m → (nat_le k n && ((not true || nat_le m n) && true)) ≡ nat_le m n
num_more k m n le = grind (arith, nat_tests)

abbrev Above : List ℕ → List ℕ → List Told → ℕ → Type 0
Above writer guid ts k = (n : ℕ) → none_above writer guid n ts ≡ nat_le k n

above_other : (writer guid : List ℕ) (ts : List Told) (t : Told) (k : ℕ) → Above writer guid ts k → is_alike writer guid t ≡ false → Above writer guid (ts ++ t ∷ []) k
above_other writer guid ts t k old e n = none_push writer guid n ts t ∙ rw (old n, e) (num_other k t.number n)

above_less : (writer guid : List ℕ) (ts : List Told) (t : Told) (k : ℕ) → Above writer guid ts k → is_alike writer guid t ≡ true → t.number < k → Above writer guid (ts ++ t ∷ []) k
above_less writer guid ts t k old e lt n = none_push writer guid n ts t ∙ rw (old n, e) (num_less k t.number n lt)

above_more : (writer guid : List ℕ) (ts : List Told) (t : Told) (k : ℕ) → Above writer guid ts k → is_alike writer guid t ≡ true → k ≤ t.number → Above writer guid (ts ++ t ∷ []) t.number
above_more writer guid ts t k old e le n = none_push writer guid n ts t ∙ rw (old n, e) (num_more k t.number n le)

-- ---- writers of one participant

nat_alike : (x : ℕ) → nat_eq x x ≡ true
nat_alike x = grind (arith, nat_tests)

bytes_alike : (xs : List ℕ) → bytes_eq xs xs ≡ true
bytes_alike xs = (bytes_eq-Decides xs xs).1 refl

behind_alike : (p a b : List ℕ) → bytes_eq (p ++ a) (p ++ b) ≡ bytes_eq a b
behind_alike [] a b = refl
behind_alike (x ∷ p) a b = rw (nat_alike x) (behind_alike p a b)

-- of two builtin writers: one and the same, or two that have apart numbers
data Two (source s : Source) : Type 0 where
  one : source ≡ s → Two source s
  apart : bytes_eq (id_of source) (id_of s) ≡ false → ((m : ℕ) (nums : Numbers) → number_of s (with_number source m nums) ≡ number_of s nums) → Two source s

two : (source s : Source) → Two source s
two Participants Participants = one refl
two Participants Publications = apart refl (λ m nums. refl)
two Participants Subscriptions = apart refl (λ m nums. refl)
two Publications Participants = apart refl (λ m nums. refl)
two Publications Publications = one refl
two Publications Subscriptions = apart refl (λ m nums. refl)
two Subscriptions Participants = apart refl (λ m nums. refl)
two Subscriptions Publications = apart refl (λ m nums. refl)
two Subscriptions Subscriptions = one refl

number_with : (s : Source) (m : ℕ) (nums : Numbers) → number_of s (with_number s m nums) ≡ m
number_with Participants m nums = refl
number_with Publications m nums = refl
number_with Subscriptions m nums = refl

and_false : (a b : Bool) → b ≡ false → (a && b) ≡ false
and_false true b e = e
and_false false b e = refl

-- ---- one GUID

abbrev writer_of : List ℕ → Source → List ℕ
writer_of guid source = take 12 guid ++ id_of source

-- the numbers after an announcement that counts
numbers_same : (ts : List Told) (t : Told) (source : Source) (nums : Numbers) → t.writer ≡ writer_of (about t) source → ((s : Source) → Above (writer_of (about t) s) (about t) ts (number_of s nums)) → number_of source nums ≤ t.number → (s : Source) → Above (writer_of (about t) s) (about t) (ts ++ t ∷ []) (number_of s (with_number source t.number nums))
numbers_same ts t source nums own old le s =
    let guid = about t in
    let alike : is_alike (writer_of guid s) guid t ≡ (bytes_eq (id_of source) (id_of s) && true) = rw (own, behind_alike (take 12 guid) (id_of source) (id_of s), bytes_alike guid) refl in
    elim (two source s) [
      | one e ↦
          let is : bytes_eq (id_of source) (id_of s) ≡ true = ap (λ (x : Source). bytes_eq (id_of source) (id_of x)) (sym e) ∙ bytes_alike (id_of source) in
          let more = above_more (writer_of guid s) guid ts t (number_of s nums) (old s) (alike ∙ rw is refl) (subst (λ (x : Source). number_of x nums ≤ t.number) e le) in
          let number : number_of s (with_number source t.number nums) ≡ t.number = ap (λ (x : Source). number_of s (with_number x t.number nums)) e ∙ number_with s t.number nums in
          subst (Above (writer_of guid s) guid (ts ++ t ∷ [])) (sym number) more
      | apart e f ↦
          subst (Above (writer_of guid s) guid (ts ++ t ∷ [])) (sym (f t.number nums)) (above_other (writer_of guid s) guid ts t (number_of s nums) (old s) (alike ∙ rw e refl))
    ]

-- the numbers after one that does not count
numbers_less : (ts : List Told) (t : Told) (source : Source) (nums : Numbers) → t.writer ≡ writer_of (about t) source → ((s : Source) → Above (writer_of (about t) s) (about t) ts (number_of s nums)) → t.number < number_of source nums → (s : Source) → Above (writer_of (about t) s) (about t) (ts ++ t ∷ []) (number_of s nums)
numbers_less ts t source nums own old lt s =
    let guid = about t in
    let alike : is_alike (writer_of guid s) guid t ≡ (bytes_eq (id_of source) (id_of s) && true) = rw (own, behind_alike (take 12 guid) (id_of source) (id_of s), bytes_alike guid) refl in
    elim (two source s) [
      | one e ↦
          let is : bytes_eq (id_of source) (id_of s) ≡ true = ap (λ (x : Source). bytes_eq (id_of source) (id_of x)) (sym e) ∙ bytes_alike (id_of source) in
          above_less (writer_of guid s) guid ts t (number_of s nums) (old s) (alike ∙ rw is refl) (subst (λ (x : Source). t.number < number_of x nums) e lt)
      | apart e f ↦ above_other (writer_of guid s) guid ts t (number_of s nums) (old s) (alike ∙ rw e refl)
    ]

if_same : (b : Bool) (m n l : ℕ) → m ≡ n → (if b then m else l) ≡ (if b && true then n else l)
if_same true m n l e = e
if_same false m n l e = refl

kept_same : (ts : List Told) (t : Told) (source : Source) (o : Option Entry) (place : ℕ) → t.writer ≡ writer_of (about t) source → IsKept ts (about t) o → number_of source (numbers_in o) ≤ t.number → counted (ts ++ t ∷ []) ≡ counted ts ++ t ∷ [] → place ≡ length (counted ts) + 1 → IsKept (ts ++ t ∷ []) (about t) (Some (entry_with o source t place))
kept_same ts t source o place own old le more at =
    let guid = about t in
    record {
      numbers = numbers_same ts t source (numbers_in o) own old.numbers le;
      farewell =
          rw (more, farewell_push guid 0 0 (counted ts) t, bytes_alike guid, ← old.farewell) (if_same (is_gone t.what) place (0 + length (counted ts) + 1) (farewell_in o) (omega (arith, at)));
      last = (t, [], rw (more, last_push guid (counted ts) t, bytes_alike guid) refl, refl, refl, omega (arith, at, ap length more, length-append (counted ts) (t ∷ [])));
    }

last_other : (cs : List Told) (guid : List ℕ) (t : Told) (o : Option Entry) → IsLastKept cs guid o → bytes_eq (about t) guid ≡ false → IsLastKept (cs ++ t ∷ []) guid o
last_other cs guid t None old e = last_push guid cs t ∙ rw (e, old) refl
last_other cs guid t (Some x) old e =
    (old.0, old.1 ++ t ∷ [], last_push guid cs t ∙ rw (e, old.2) refl, old.3, old.4, omega (arith, old.5, length-append old.1 (t ∷ []), length-append cs (t ∷ [])))

kept_other : (ts : List Told) (t : Told) (guid : List ℕ) (o : Option Entry) → IsKept ts guid o → bytes_eq (about t) guid ≡ false → counted (ts ++ t ∷ []) ≡ counted ts ++ t ∷ [] → IsKept (ts ++ t ∷ []) guid o
kept_other ts t guid o old e more =
    record {
      numbers = λ s. above_other (writer_of guid s) guid ts t (number_of s (numbers_in o)) (old.numbers s) (and_false (bytes_eq t.writer (writer_of guid s)) (bytes_eq (about t) guid) e);
      farewell = rw (more, farewell_push guid 0 0 (counted ts) t, and_false (is_gone t.what) (bytes_eq (about t) guid) e) old.farewell;
      last = subst (λ (cs : List Told). IsLastKept cs guid o) (sym more) (last_other (counted ts) guid t o old.last e);
    }

kept_passed : (ts : List Told) (t : Told) (guid : List ℕ) (o : Option Entry) → IsKept ts guid o → ((s : Source) → Above (writer_of guid s) guid (ts ++ t ∷ []) (number_of s (numbers_in o))) → counted (ts ++ t ∷ []) ≡ counted ts → IsKept (ts ++ t ∷ []) guid o
kept_passed ts t guid o old numbers same =
    record {
      numbers = numbers;
      farewell = rw same old.farewell;
      last = subst (λ (cs : List Told). IsLastKept cs guid o) (sym same) old.last;
    }

-- ---- all GUIDs

counts_is : (count : ℕ) (kept : List ℕ → Option Entry) (ts : List Told) (t : Told) (source : Source) → t.writer ≡ writer_of (about t) source → KeepsBy count kept ts → counts ts t ≡ nat_le (number_of source (numbers_in (kept (about t)))) t.number
counts_is count kept ts t source own keeps = rw own ((keeps.each (about t)).numbers source t.number)

number_le : (m n : ℕ) → nat_lt m n ≡ false → n ≤ m
number_le m n e = grind (arith, nat_tests)

number_lt : (m n : ℕ) → nat_lt m n ≡ true → m < n
number_lt m n e = grind (arith, nat_tests)

le_true : (m n : ℕ) → m ≤ n → nat_le m n ≡ true
le_true m n h = grind (arith, nat_tests)

le_false : (m n : ℕ) → n < m → nat_le m n ≡ false
le_false m n h = grind (arith, nat_tests)

at : (count : ℕ) (kept next : List ℕ → Option Entry) (ts : List Told) (t : Told) (source : Source) → t.writer ≡ writer_of (about t) source → KeepsBy count kept ts → number_of source (numbers_in (kept (about t))) ≤ t.number → counted (ts ++ t ∷ []) ≡ counted ts ++ t ∷ [] → ((q : List ℕ) → next q ≡ cond (bytes_eq (about t) q) (Some (entry_with (kept (about t)) source t (count + 1))) (kept q)) → (q : List ℕ) (b : Bool) → bytes_eq (about t) q ≡ b → IsKept (ts ++ t ∷ []) q (next q)
at count kept next ts t source own keeps le more is q true e =
    let new : next q ≡ Some (entry_with (kept (about t)) source t (count + 1)) = is q ∙ rw e refl in
    subst (λ (g : List ℕ). IsKept (ts ++ t ∷ []) g (next q)) ((bytes_eq-Decides (about t) q).0 e) (subst (λ (o : Option Entry). IsKept (ts ++ t ∷ []) (about t) o) (sym new) (kept_same ts t source (kept (about t)) (count + 1) own (keeps.each (about t)) le more (ap (λ (n : ℕ). n + 1) keeps.count_is)))
at count kept next ts t source own keeps le more is q false e =
    let new : next q ≡ kept q = is q ∙ rw e refl in
    subst (λ (o : Option Entry). IsKept (ts ++ t ∷ []) q o) (sym new) (kept_other ts t q (kept q) (keeps.each q) e more)

pub keeps_counted : (count : ℕ) (kept next : List ℕ → Option Entry) (ts : List Told) (t : Told) (source : Source) → t.writer ≡ writer_of (about t) source → KeepsBy count kept ts → nat_lt t.number (number_of source (numbers_in (kept (about t)))) ≡ false → ((q : List ℕ) → next q ≡ cond (bytes_eq (about t) q) (Some (entry_with (kept (about t)) source t (count + 1))) (kept q)) → KeepsBy (count + 1) next (ts ++ t ∷ [])
keeps_counted count kept next ts t source own keeps e is =
    let le = number_le t.number (number_of source (numbers_in (kept (about t)))) e in
    let more : counted (ts ++ t ∷ []) ≡ counted ts ++ t ∷ [] = counted_push ts t (counts_is count kept ts t source own keeps ∙ le_true (number_of source (numbers_in (kept (about t)))) t.number le) in
    record {
      count_is = omega (arith, keeps.count_is, ap length more, length-append (counted ts) (t ∷ []));
      each = λ q. at count kept next ts t source own keeps le more is q (bytes_eq (about t) q) refl;
    }

passed_at : (count : ℕ) (kept : List ℕ → Option Entry) (ts : List Told) (t : Told) (source : Source) → t.writer ≡ writer_of (about t) source → KeepsBy count kept ts → t.number < number_of source (numbers_in (kept (about t))) → counted (ts ++ t ∷ []) ≡ counted ts → (q : List ℕ) (b : Bool) → bytes_eq (about t) q ≡ b → IsKept (ts ++ t ∷ []) q (kept q)
passed_at count kept ts t source own keeps lt same q true e =
    subst (λ (g : List ℕ). IsKept (ts ++ t ∷ []) g (kept g)) ((bytes_eq-Decides (about t) q).0 e) (kept_passed ts t (about t) (kept (about t)) (keeps.each (about t)) (numbers_less ts t source (numbers_in (kept (about t))) own (keeps.each (about t)).numbers lt) same)
passed_at count kept ts t source own keeps lt same q false e =
    kept_passed ts t q (kept q) (keeps.each q) (λ s. above_other (writer_of q s) q ts t (number_of s (numbers_in (kept q))) ((keeps.each q).numbers s) (and_false (bytes_eq t.writer (writer_of q s)) (bytes_eq (about t) q) e)) same

pub keeps_passed : (count : ℕ) (kept : List ℕ → Option Entry) (ts : List Told) (t : Told) (source : Source) → t.writer ≡ writer_of (about t) source → KeepsBy count kept ts → nat_lt t.number (number_of source (numbers_in (kept (about t)))) ≡ true → KeepsBy count kept (ts ++ t ∷ [])
keeps_passed count kept ts t source own keeps e =
    let lt = number_lt t.number (number_of source (numbers_in (kept (about t)))) e in
    let same : counted (ts ++ t ∷ []) ≡ counted ts = counted_pass ts t (counts_is count kept ts t source own keeps ∙ le_false (number_of source (numbers_in (kept (about t)))) t.number lt) in
    record {
      count_is = keeps.count_is ∙ ap length (sym same);
      each = λ q. passed_at count kept ts t source own keeps lt same q (bytes_eq (about t) q) refl;
    }

zero_le : (s : Source) (n : ℕ) → nat_le (number_of s no_numbers) n ≡ true
zero_le Participants n = le_true 0 n (omega arith)
zero_le Publications n = le_true 0 n (omega arith)
zero_le Subscriptions n = le_true 0 n (omega arith)

-- nothing heard
pub keeps_nothing : (kept : List ℕ → Option Entry) → ((q : List ℕ) → kept q ≡ None) → KeepsBy 0 kept []
keeps_nothing kept none = record {
  count_is = refl;
  each = λ q. subst (λ (o : Option Entry). IsKept [] q o) (sym (none q)) (record { numbers = λ s n. sym (zero_le s n); farewell = refl; last = refl });
}

-- Octets of a file spell one text or break at one place, and never both.
use Rattle.std.proofs.Common.{◌≡◌, ◌≢◌, inl, inr, ℕ, ◌+◌, ◌^◌, true, List, [], ◌∷◌, ◌++◌, length, take, drop, Option, Some, None, option_map, Result, Ok, Err, refl, sym, ◌∙◌, ap, subst, arith, append_assoc}
use Rattle.std.specs.Int.{w32}
use Rattle.std.proofs.lemmas.Bool.{le-ltb, ne_eqb}
use Rattle.std.proofs.lemmas.List.{length-append, take_at, drop_at}
use Rattle.dur_base.specs.Fields.{number}
use Rattle.dur_outside.specs.declared.values.FileId.{FileId}
use Rattle.dur_outside.specs.World.{Image}
use Rattle.dur_view.specs.declared.data.View.{View}
use Rattle.dur_base.specs.declared.entry.Entry.{Entry}
use Rattle.dur_qos.specs.declared.plan.Plan.{Plan}
use Rattle.dur_view.specs.History.{History}
use Rattle.dur_view.specs.History.{Start}
use Rattle.dur_record.specs.declared.version.Version.{Version}
use Rattle.dur_journal.specs.Histories.{more, completed}
use Rattle.dur_journal.specs.Texts.{version_of, view_in, entries_in}
use Rattle.dur_journal.specs.declared.front.Front.TheVariants.{Open}
use Rattle.dur_journal.specs.File.{Stored, IsStored, records_text, Tells, FileText, TextBreaks, base_length, break_of, error_of, record_break, gate_break}
use Rattle.dur_journal.specs.Kept.{live_in, Kept, KeepsBy, Keeps, BrokenBy, IsBroken}

ok_same : {A : Type 0} (x : Result A ℕ) (a b : A) → x ≡ Ok a → x ≡ Ok b → a ≡ b
ok_same x a b is is_too = cc

-- a text that is there whole does not break
none_breaks : {A : Type 0} (read : List ℕ → Result A ℕ) (text rest : List ℕ) (a : A) → read text ≡ Ok a → break_of read (length text) (text ++ rest) ≡ None
unfolding break_of
none_breaks read text rest a is =
    rw (le-ltb (length (text ++ rest)) (length text) (omega (arith, length-append text rest)))
    (ap (λ (l : List ℕ). error_of (read l)) (take_at text rest (length text) refl) ∙ ap error_of is)

record_none : (version : Version) (h : History) (r : Stored) (rest : List ℕ) (es : List Entry) → IsStored r → entries_in version h r.body ≡ Ok es → record_break version h (r.size ++ (r.body ++ rest)) ≡ None
unfolding record_break
record_none version h r rest es good is =
    let x = r.size ++ (r.body ++ rest) in
    let front : take 4 x ≡ r.size = take_at r.size (r.body ++ rest) 4 good.whole in
    let back : drop 4 x ≡ r.body ++ rest = drop_at r.size (r.body ++ rest) 4 good.whole in
    let counted : number true w32 (take 4 x) ≡ length r.body = ap (number true w32) front ∙ good.counts in
    rw (le-ltb (length x) 4 (omega (arith, length-append r.size (r.body ++ rest), good.whole)), counted, le-ltb (2 ^ 28) (length r.body) good.bound, back, none_breaks (entries_in version h) r.body rest es is) refl

-- no record that follows stands at the front of these octets
abbrev Stops : Version → History → List ℕ → Type 0
Stops version h e = (r : Stored) (es : List Entry) (rest : List ℕ) → e ≡ 1 ∷ (r.size ++ (r.body ++ rest)) → IsStored r → entries_in version h r.body ≡ Ok es → ⊥

closed_stops : (version : Version) (h : History) (gate : ℕ) (rest : List ℕ) → gate ≢ 1 → Stops version h (gate ∷ rest)
closed_stops version h gate rest closed r es more_rest is good spells = closed (cc)

break_stops : (version : Version) (h : History) (e : List ℕ) (at : ℕ) → gate_break version h e ≡ Some at → Stops version h e
break_stops version h e at breaks r es rest is good spells =
    let none : gate_break version h e ≡ None = ap (gate_break version h) is ∙ ap (option_map (λ n. n + 1)) (record_none version h r rest es good spells) in
    absurd (cc)

split_more : (r : Stored) (rs : List Stored) (e : List ℕ) → records_text (r ∷ rs) ++ e ≡ 1 ∷ (r.size ++ (r.body ++ (records_text rs ++ e)))
split_more r rs e = ap (λ (l : List ℕ). 1 ∷ l) (append_assoc r.size (r.body ++ records_text rs) e ∙ ap (λ (l : List ℕ). r.size ++ l) (append_assoc r.body (records_text rs) e))

tail_same : (x y : List ℕ) → 1 ∷ x ≡ 1 ∷ y → x ≡ y
tail_same x y is = cc

pub record Same (a b : History) (rs ss : List Stored) (e f : List ℕ) : Type 0 where
  pub after : a ≡ b
  pub records : rs ≡ ss
  pub rest : e ≡ f

once : (version : Version) (h a b : History) (rs ss : List Stored) (e f : List ℕ) → Tells version h rs a → Tells version h ss b → records_text rs ++ e ≡ records_text ss ++ f → Stops version a e → Stops version b f → Same a b rs ss e f
once version h a b [] [] e f tells tells_too is stops stops_too = record { after = tells ∙ sym tells_too; records = refl; rest = is }
once version h a b [] (s ∷ ss) e f tells tells_too is stops stops_too =
    let inner = tells_too.1 in
    absurd (stops s inner.0 (records_text ss ++ f) (is ∙ split_more s ss f) tells_too.0 (ap (λ (g : History). entries_in version g s.body) tells ∙ inner.1))
once version h a b (r ∷ rs) [] e f tells tells_too is stops stops_too =
    let inner = tells.1 in
    absurd (stops_too r inner.0 (records_text rs ++ e) (sym is ∙ split_more r rs e) tells.0 (ap (λ (g : History). entries_in version g r.body) tells_too ∙ inner.1))
once version h a b (r ∷ rs) (s ∷ ss) e f tells tells_too is stops stops_too =
    let mine = tells.1 in
    let yours = tells_too.1 in
    let good = tells.0 in
    let good_too = tells_too.0 in
    let x = records_text rs ++ e in
    let y = records_text ss ++ f in
    let both : r.size ++ (r.body ++ x) ≡ s.size ++ (s.body ++ y) = tail_same _ _ (sym (split_more r rs e) ∙ is ∙ split_more s ss f) in
    let size : r.size ≡ s.size = sym (take_at r.size (r.body ++ x) 4 good.whole) ∙ ap (take 4) both ∙ take_at s.size (s.body ++ y) 4 good_too.whole in
    let behind : r.body ++ x ≡ s.body ++ y = sym (drop_at r.size (r.body ++ x) 4 good.whole) ∙ ap (drop 4) both ∙ drop_at s.size (s.body ++ y) 4 good_too.whole in
    let counted : length s.body ≡ length r.body = sym good_too.counts ∙ ap (number true w32) (sym size) ∙ good.counts in
    let body : r.body ≡ s.body = sym (take_at r.body x (length r.body) refl) ∙ ap (take (length r.body)) behind ∙ take_at s.body y (length r.body) counted in
    let rest : x ≡ y = sym (drop_at r.body x (length r.body) refl) ∙ ap (drop (length r.body)) behind ∙ drop_at s.body y (length r.body) counted in
    let entries : mine.0 ≡ yours.0 = ok_same (entries_in version h r.body) mine.0 yours.0 mine.1 (ap (entries_in version h) body ∙ yours.1) in
    let later : Tells version (more h mine.0) ss b = subst (λ (es : List Entry). Tells version (more h es) ss b) (sym entries) yours.2 in
    let inner = once version (more h mine.0) a b rs ss e f mine.2 later rest stops stops_too in
    let head : r ≡ s = grind (arith, size, body) in
    record { after = inner.after; records = ap (λ (q : Stored). q ∷ rs) head ∙ ap (λ (l : List Stored). s ∷ l) inner.records; rest = inner.rest }

-- the octets of a file with the same header and base
pub record SameBase (x base more_octets base_too more_too : List ℕ) : Type 0 where
  pub bases : base ≡ base_too
  pub behind : more_octets ≡ more_too

base_once : (x front base rest front_too base_too rest_too : List ℕ) → x ≡ front ++ (base ++ rest) → x ≡ front_too ++ (base_too ++ rest_too)
    → length front ≡ 25 → length front_too ≡ 25 → base_length x ≡ length base → base_length x ≡ length base_too → SameBase x base rest base_too rest_too
base_once x front base rest front_too base_too rest_too parts parts_too header header_too sized sized_too =
    let behind : base ++ rest ≡ base_too ++ rest_too = sym (drop_at front (base ++ rest) 25 header) ∙ ap (drop 25) (sym parts ∙ parts_too) ∙ drop_at front_too (base_too ++ rest_too) 25 header_too in
    let counted : length base_too ≡ length base = sym sized_too ∙ sized in
    record {
      bases = sym (take_at base rest (length base) refl) ∙ ap (take (length base)) behind ∙ take_at base_too rest_too (length base) counted;
      behind = sym (drop_at base rest (length base) refl) ∙ ap (drop (length base)) behind ∙ drop_at base_too rest_too (length base) counted;
    }

pub record SameText (g n : ℕ) (v u : View) (rs ss : List Stored) (h k : History) : Type 0 where
  pub generation : g ≡ n
  pub view : v ≡ u
  pub records : rs ≡ ss
  pub history : h ≡ k

pub text_once : (x : List ℕ) (g n : ℕ) (v u : View) (rs ss : List Stored) (h k : History) → FileText x g v rs h → FileText x n u ss k → SameText g n v u rs ss h k
text_once x g n v u rs ss h k text too =
    let same = base_once x text.front text.base _ too.front too.base _ text.parts too.parts text.header too.header text.sized too.sized in
    let view : v ≡ u = ok_same (view_in (version_of x) text.base) v u text.spells (ap (view_in (version_of x)) same.bases ∙ too.spells) in
    let tells : Tells (version_of x) (Start u) rs h = subst (λ (w : View). Tells (version_of x) (Start w) rs h) view text.tells in
    let all = once (version_of x) (Start u) h k rs ss (text.gate ∷ text.rest) (too.gate ∷ too.rest) tells too.tells same.behind (closed_stops (version_of x) h text.gate text.rest text.closed) (closed_stops (version_of x) k too.gate too.rest too.closed) in
    let fronts : Open g ≡ Open n = ok_same _ (Open g) (Open n) text.opens too.opens in
    record { generation = cc (fronts); view = view; records = all.records; history = all.after }

closed_none : (version : Version) (h : History) (gate : ℕ) (rest : List ℕ) → gate ≢ 1 → gate_break version h (gate ∷ rest) ≡ None
closed_none version h gate rest closed = rw (ne_eqb gate 1 closed) refl

base_none : (x front base rest : List ℕ) (view : View) → x ≡ front ++ (base ++ rest) → length front ≡ 25 → base_length x ≡ length base → view_in (version_of x) base ≡ Ok view → break_of (view_in (version_of x)) (base_length x) (drop 25 x) ≡ None
base_none x front base rest view parts header sized spells =
    ap (λ (l : List ℕ). break_of (view_in (version_of x)) (base_length x) l) (ap (drop 25) parts ∙ drop_at front (base ++ rest) 25 header)
    ∙ ap (λ (n : ℕ). break_of (view_in (version_of x)) n (base ++ rest)) sized ∙ none_breaks (view_in (version_of x)) base rest view spells

some_none : (o : Option ℕ) (at : ℕ) → o ≡ Some at → o ≡ None → ⊥
some_none o at some none = absurd (cc)

some_same : (o : Option ℕ) (a b : ℕ) → o ≡ Some a → o ≡ Some b → a ≡ b
some_same o a b is is_too = cc

pub never_both : (x : List ℕ) (g : ℕ) (v : View) (rs : List Stored) (h : History) (at : ℕ) → FileText x g v rs h → TextBreaks x at → ⊥
never_both x g v rs h at text breaks = elim breaks [
  | inl based ↦ some_none _ based.inside based.breaks (base_none x text.front text.base _ v text.parts text.header text.sized text.spells)
  | inr behind ↦ (
      let same = base_once x text.front text.base _ behind.front behind.base _ text.parts behind.parts text.header behind.header text.sized behind.sized in
      let view : v ≡ behind.view = ok_same (view_in (version_of x) text.base) v behind.view text.spells (ap (view_in (version_of x)) same.bases ∙ behind.spells) in
      let tells : Tells (version_of x) (Start behind.view) rs h = subst (λ (w : View). Tells (version_of x) (Start w) rs h) view text.tells in
      let all = once (version_of x) (Start behind.view) h behind.h rs behind.rs (text.gate ∷ text.rest) behind.rest tells behind.tells same.behind
      (closed_stops (version_of x) h text.gate text.rest text.closed) (break_stops (version_of x) behind.h behind.rest behind.inside behind.breaks) in
      some_none (gate_break (version_of x) behind.h behind.rest) behind.inside behind.breaks
      (ap (λ (e : List ℕ). gate_break (version_of x) behind.h e) (sym all.rest) ∙ closed_none (version_of x) behind.h text.gate text.rest text.closed))
]

pub break_once : (x : List ℕ) (a b : ℕ) → TextBreaks x a → TextBreaks x b → a ≡ b
break_once x a b one two = elim one [
  | inl p ↦ elim two [
    | inl q ↦ p.place ∙ ap (λ (n : ℕ). 25 + n) (some_same _ p.inside q.inside p.breaks q.breaks) ∙ sym q.place
    | inr q ↦ absurd (some_none _ p.inside p.breaks (base_none x q.front q.base _ q.view q.parts q.header q.sized q.spells))
  ]
  | inr p ↦ elim two [
    | inl q ↦ absurd (some_none _ q.inside q.breaks (base_none x p.front p.base _ p.view p.parts p.header p.sized p.spells))
    | inr q ↦ (
        let same = base_once x p.front p.base _ q.front q.base _ p.parts q.parts p.header q.header p.sized q.sized in
        let view : p.view ≡ q.view = ok_same (view_in (version_of x) p.base) p.view q.view p.spells (ap (view_in (version_of x)) same.bases ∙ q.spells) in
        let tells : Tells (version_of x) (Start q.view) p.rs p.h = subst (λ (w : View). Tells (version_of x) (Start w) p.rs p.h) view p.tells in
        let all = once (version_of x) (Start q.view) p.h q.h p.rs q.rs p.rest q.rest tells q.tells same.behind (break_stops (version_of x) p.h p.rest p.inside p.breaks) (break_stops (version_of x) q.h q.rest q.inside q.breaks) in
        let inside : p.inside ≡ q.inside = some_same (gate_break (version_of x) p.h p.rest) p.inside q.inside p.breaks (ap (λ (e : List ℕ). gate_break (version_of x) p.h e) all.rest ∙ ap (λ (g : History). gate_break (version_of x) g q.rest) all.after ∙ q.breaks) in
        let bases : length p.base ≡ length q.base = ap length same.bases in
        let records : length (records_text p.rs) ≡ length (records_text q.rs) = ap (λ (l : List Stored). length (records_text l)) all.records in
        omega (arith, p.place, q.place, inside, bases, records))
  ]
]

keeps_by_once : (plan : Plan) (c : Image) (r : Result (Option (FileId × ℕ)) (FileId × ℕ)) (k j : Kept) → KeepsBy plan c r k → KeepsBy plan c r j → k ≡ j
keeps_by_once plan c (Err e) k j keeps too = absurd keeps
keeps_by_once plan c (Ok None) k j keeps too = keeps ∙ sym too
keeps_by_once plan c (Ok (Some live)) k j keeps too =
    let same = text_once _ _ _ _ _ _ _ _ _ keeps.text too.text in
    let history : k.history ≡ j.history = keeps.history ∙ ap (completed plan) same.history ∙ sym too.history in
    let appended : k.appended ≡ j.appended = keeps.appended ∙ ap (λ (l : List Stored). length (records_text l)) same.records ∙ sym too.appended in
    ap (λ (n : ℕ). record k { generation = n }) same.generation ∙ ap (λ (h : History). record k { generation = j.generation; history = h }) history
    ∙ ap (λ (n : ℕ). record j { appended = n }) appended

-- a disk keeps one state
pub keeps_once : (plan : Plan) (c : Image) (k j : Kept) → Keeps plan c k → Keeps plan c j → k ≡ j
keeps_once plan c k j keeps too = keeps_by_once plan c (live_in c) k j keeps too

broken_by : (plan : Plan) (c : Image) (r : Result (Option (FileId × ℕ)) (FileId × ℕ)) (k : Kept) (file : FileId) (at : ℕ) → KeepsBy plan c r k → BrokenBy c r file at → ⊥
broken_by plan c (Err e) k file at keeps broken = keeps
broken_by plan c (Ok None) k file at keeps broken = broken
broken_by plan c (Ok (Some live)) k file at keeps broken = never_both _ _ _ _ _ at keeps.text broken.1

-- or is broken, and never both
pub kept_or_broken : (plan : Plan) (c : Image) (k : Kept) (file : FileId) (at : ℕ) → Keeps plan c k → IsBroken c file at → ⊥
kept_or_broken plan c k file at keeps broken = broken_by plan c (live_in c) k file at keeps broken

break_by_once : (c : Image) (r : Result (Option (FileId × ℕ)) (FileId × ℕ)) (file too : FileId) (at place : ℕ) → BrokenBy c r file at → BrokenBy c r too place → (file ≡ too) × (at ≡ place)
break_by_once c (Err e) file too at place one two = (one.0 ∙ sym two.0, one.1 ∙ sym two.1)
break_by_once c (Ok None) file too at place one two = absurd one
break_by_once c (Ok (Some live)) file too at place one two = (one.0 ∙ sym two.0, break_once _ at place one.1 two.1)

-- and has one first break
pub broken_once : (c : Image) (file too : FileId) (at place : ℕ) → IsBroken c file at → IsBroken c too place → (file ≡ too) × (at ≡ place)
broken_once c file too at place one two = break_by_once c (live_in c) file too at place one two

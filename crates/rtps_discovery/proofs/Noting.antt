-- What a directory stands for after one announcement more.
use Rattle.std.proofs.Common.{◌≡◌, ℕ, ◌+◌, Bool, true, false, List, [], ◌∷◌, ◌++◌, take, drop, Option, Some, None, refl, sym, ap, subst, ◌∙◌, inl, inr, if◌then◌else◌}
use Rattle.std.specs.Prelude.{nat_lt, cond}
use Rattle.std.specs.BTreeMap.{BTreeMap, get, is_at}
use Rattle.std.specs.Cmp.Lexicographic.{slice_cmp}
use Rattle.std.specs.List.{AllByRecursion}
use Rattle.std.specs.Map.{lookup}
use Rattle.std.specs.Ordering.{nat_cmp}
use Rattle.std.specs.Str.{bytes_eq}
use Rattle.std.proofs.lemmas.List.{take-append-drop}
use Rattle.std.proofs.lemmas.Map.Text.{is_eq-slice_cmp}
use Rattle.dur_base.specs.declared.fact.Fact.{Fact}
use Rattle.dur_base.specs.declared.fact.Fact.TheVariants.{Data, Unreadable, Gap, Beat, Nack}
use Rattle.dur_base.specs.declared.sample.Raw.{Raw}
use Rattle.dur_qos.specs.declared.plan.Plan.{Plan}
use Rattle.rtps_discovery.specs.declared.announcement.Announcement.{Announcement}
use Rattle.rtps_discovery.specs.Announcing.{Announces}
use Rattle.rtps_discovery.specs.declared.announcement.Told.{Told}
use Rattle.rtps_discovery.specs.declared.entry.Entry.{Entry}
use Rattle.rtps_discovery.specs.declared.source.Source.{Source}
use Rattle.rtps_discovery.specs.Entries.{number_of, numbers_in, entry_with, entry_after}
use Rattle.rtps_discovery.specs.Hearing.{KeepsBy}
use Rattle.rtps_discovery.specs.Learnt.{HeardFact, IsTold, AreTold, about}
use Rattle.rtps_discovery.specs.Sources.{id_of, source_of}
use Rattle.rtps_discovery.specs.Told.{IsOwn}
use Rattle.rtps_discovery.proofs.Keeping.{keeps_counted, keeps_passed}
use Rattle.rtps_discovery.proofs.Payloads.{not_none, same_some, source_again}

pub own_source : (t : Told) (own : IsOwn t) → source_of (drop 12 t.writer) ≡ Some own.0
own_source t own = ap source_of own.1 ∙ source_again own.0

own_writer : (t : Told) (source : Source) → IsOwn t → source_of (drop 12 t.writer) ≡ Some source → t.writer ≡ take 12 (about t) ++ id_of source
own_writer t source own found =
    let same : own.0 ≡ source = same_some (source_of (drop 12 t.writer)) own.0 source (own_source t own) found in
    sym (take-append-drop 12 t.writer) ∙ ap (λ (xs : List ℕ). xs ++ drop 12 t.writer) (sym own.2) ∙ ap (λ (xs : List ℕ). take 12 (about t) ++ xs) (own.1 ∙ ap id_of same)

when_none : (b : Bool) (e : Entry) → (if b then None else Some e) ≡ None → b ≡ true
when_none true e h = refl
when_none false e h = absurd (not_none (Some e) e h refl)

when_some : (b : Bool) (e f : Entry) → (if b then None else Some e) ≡ Some f → (b ≡ false) × (e ≡ f)
when_some true e f h = absurd (not_none None f refl h)
when_some false e f h = (refl, same_some (Some e) e f refl h)

pub note_passed : (m : BTreeMap (List ℕ) Entry) (count place : ℕ) (ts : List Told) (t : Told) (source : Source) (key : List ℕ) (old : Option Entry) → key ≡ about t → source_of (drop 12 t.writer) ≡ Some source → old ≡ get (slice_cmp nat_cmp) m key → entry_after old source t place ≡ None → IsOwn t → KeepsBy count (get (slice_cmp nat_cmp) m) ts → KeepsBy count (get (slice_cmp nat_cmp) m) (ts ++ t ∷ [])
note_passed m count place ts t source key old whose found is none own keeps =
    let here : old ≡ get (slice_cmp nat_cmp) m (about t) = is ∙ ap (get (slice_cmp nat_cmp) m) whose in
    let less : nat_lt t.number (number_of source (numbers_in old)) ≡ true = when_none (nat_lt t.number (number_of source (numbers_in old))) (entry_with old source t place) none in
    keeps_passed count (get (slice_cmp nat_cmp) m) ts t source (own_writer t source own found) keeps (rw (← here) less)

pub note_counted : (m n : BTreeMap (List ℕ) Entry) (count place : ℕ) (ts : List Told) (t : Told) (source : Source) (key : List ℕ) (old : Option Entry) (entry : Entry) → key ≡ about t → source_of (drop 12 t.writer) ≡ Some source → old ≡ get (slice_cmp nat_cmp) m key → place ≡ count + 1 → entry_after old source t place ≡ Some entry → ((q : List ℕ) → get (slice_cmp nat_cmp) n q ≡ cond (is_at (slice_cmp nat_cmp key) q) (Some entry) (get (slice_cmp nat_cmp) m q)) → IsOwn t → KeepsBy count (get (slice_cmp nat_cmp) m) ts → KeepsBy place (get (slice_cmp nat_cmp) n) (ts ++ t ∷ [])
note_counted m n count place ts t source key old entry whose found is at some updates own keeps =
    let here : old ≡ get (slice_cmp nat_cmp) m (about t) = is ∙ ap (get (slice_cmp nat_cmp) m) whose in
    let both : (nat_lt t.number (number_of source (numbers_in old)) ≡ false) × (entry_with old source t place ≡ entry) = when_some (nat_lt t.number (number_of source (numbers_in old))) (entry_with old source t place) entry some in
    let same : entry ≡ entry_with (get (slice_cmp nat_cmp) m (about t)) source t (count + 1) = sym both.1 ∙ ap (λ (o : Option Entry). entry_with o source t place) here ∙ ap (entry_with (get (slice_cmp nat_cmp) m (about t)) source t) at in
    let step : (q : List ℕ) → get (slice_cmp nat_cmp) n q ≡ cond (bytes_eq (about t) q) (Some (entry_with (get (slice_cmp nat_cmp) m (about t)) source t (count + 1))) (get (slice_cmp nat_cmp) m q) = λ q. updates q ∙ ap (λ (b : Bool). cond b (Some entry) (get (slice_cmp nat_cmp) m q)) (is_eq-slice_cmp key q ∙ ap (λ (k : List ℕ). bytes_eq k q) whose) ∙ ap (λ (e : Entry). cond (bytes_eq (about t) q) (Some e) (get (slice_cmp nat_cmp) m q)) same in
    subst (λ (k : ℕ). KeepsBy k (get (slice_cmp nat_cmp) n) (ts ++ t ∷ [])) (sym at) (keeps_counted count (get (slice_cmp nat_cmp) m) (get (slice_cmp nat_cmp) n) ts t source (own_writer t source own found) keeps (rw (← here) both.0) step)

-- a map with the same entries
pub same_entries : (m n : BTreeMap (List ℕ) Entry) (count : ℕ) (ts : List Told) → m.entries ≡ n.entries → KeepsBy count (get (slice_cmp nat_cmp) m) ts → KeepsBy count (get (slice_cmp nat_cmp) n) ts
same_entries m n count ts same keeps =
    subst (λ (es : List (List ℕ × Entry)). KeepsBy count (λ q. lookup (is_at (slice_cmp nat_cmp q)) es) ts) same keeps

-- ---- one fact more

pub told_more : (plan : Plan) (facts : List HeardFact) (told : List Told) (h : HeardFact) (t : Told) → AreTold plan facts told → IsTold plan h.moment h.fact t → AreTold plan (facts ++ h ∷ []) (told ++ t ∷ [])
told_more plan [] told h t e is = inl (t, [], is, ap (λ (ts : List Told). ts ++ t ∷ []) e, refl)
told_more plan (f ∷ facts) told h t (inl x) is = inl (x.0, x.1 ++ t ∷ [], x.2, ap (λ (ts : List Told). ts ++ t ∷ []) x.3, told_more plan facts x.1 h t x.4 is)
told_more plan (f ∷ facts) told h t (inr x) is = inr (x.0, told_more plan facts told h t x.1 is)

pub told_none : (plan : Plan) (facts : List HeardFact) (told : List Told) (h : HeardFact) → AreTold plan facts told → ((t : Told) → IsTold plan h.moment h.fact t → ⊥) → AreTold plan (facts ++ h ∷ []) told
told_none plan [] told h e none = inr (none, e)
told_none plan (f ∷ facts) told h (inl x) none = inl (x.0, x.1, x.2, x.3, told_none plan facts x.1 h x.4 none)
told_none plan (f ∷ facts) told h (inr x) none = inr (x.0, told_none plan facts told h x.1 none)

-- ---- what a fact announces

pub told_own : (plan : Plan) (moment : ℕ) (fact : Fact) (t : Told) → IsTold plan moment fact t → IsOwn t
told_own plan moment (Data writer reader number raw) t is =
    (is.1.source, ap (λ (x : Told). drop 12 x.writer) is.0 ∙ is.1.from, is.1.own ∙ sym (ap (λ (x : Told). take 12 x.writer) is.0))
told_own plan moment (Unreadable writer reader number) t is = absurd is
told_own plan moment (Gap writer reader start set) t is = absurd is
told_own plan moment (Beat writer reader first last is_final) t is = absurd is
told_own plan moment (Nack reader writer set is_final) t is = absurd is

pub told_same : (plan : Plan) (moment : ℕ) (fact : Fact) (writer reader : List ℕ) (number : ℕ) (raw : Raw) (read : Option Announcement) (what : Announcement) → fact ≡ Data writer reader number raw → ((a : Announcement) → Announces plan writer raw a → read ≡ Some a) → read ≡ Some what → (t : Told) → IsTold plan moment fact t → record { writer = writer; number = number; moment = moment; what = what } ≡ t
told_same plan moment fact writer reader number raw read what e all some t is =
    let here = subst (λ (f : Fact). IsTold plan moment f t) e is in
    ap (λ (a : Announcement). record { writer = writer; number = number; moment = moment; what = a }) (same_some read what t.what some (all t.what here.1)) ∙ sym here.0

pub told_nothing : (plan : Plan) (moment : ℕ) (fact : Fact) (writer reader : List ℕ) (number : ℕ) (raw : Raw) (read : Option Announcement) → fact ≡ Data writer reader number raw → ((a : Announcement) → Announces plan writer raw a → read ≡ Some a) → read ≡ None → (t : Told) → IsTold plan moment fact t → ⊥
told_nothing plan moment fact writer reader number raw read e all none t is =
    let here = subst (λ (f : Fact). IsTold plan moment f t) e is in
    not_none read t.what none (all t.what here.1)

pub all_more : {X : Type 0} (P : X → Type 0) (xs : List X) (x : X) → AllByRecursion P xs → P x → AllByRecursion P (xs ++ x ∷ [])
all_more P [] x all one = (one, tt)
all_more P (y ∷ xs) x all one = (all.0, all_more P xs x all.1 one)

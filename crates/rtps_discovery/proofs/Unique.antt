-- What is announced, and what is learnt, is determined.
use Rattle.std.proofs.Common.{◌≡◌, ℕ, Bool, List, [], ◌∷◌, ◌++◌, map, take, Option, Some, None, refl, sym, ap, subst, ◌∙◌, arith, inl, inr, ◌⊎◌}
use Rattle.std.specs.Cmp.Lexicographic.{slice_cmp}
use Rattle.std.specs.List.{AllByRecursion, Contains}
use Rattle.std.specs.List.Sorted.{IsStrictlySortedBy}
use Rattle.std.specs.Ordering.{nat_cmp}
use Rattle.std.specs.declared.cmp.Ordering.{Ordering}
use Rattle.std.specs.declared.cmp.Ordering.TheVariants.{Less, Equal}
use Rattle.std.proofs.lemmas.Cmp.{nat_list_cmp_total, tied_itself}
use Rattle.std.proofs.lemmas.List.Elements.{Contains-append_left, Contains-append_right, Contains-append_cases, Contains-push, Contains-push_cases}
use Rattle.std.proofs.lemmas.Map.Keys.{sorted_head, sorted_tail}
use Rattle.dur_base.specs.declared.fact.Fact.{Fact}
use Rattle.dur_base.specs.declared.fact.Fact.TheVariants.{Data, Unreadable, Gap, Beat, Nack}
use Rattle.dur_base.specs.declared.sample.Raw.{Raw}
use Rattle.dur_qos.specs.declared.plan.Plan.{Plan}
use Rattle.dur_qos.specs.declared.plan.Topic.{Topic}
use Rattle.rtps_discovery.specs.declared.announcement.Announcement.{Announcement}
use Rattle.rtps_discovery.specs.declared.announcement.Announcement.TheVariants.{Gone}
use Rattle.rtps_discovery.specs.declared.announcement.Told.{Told}
use Rattle.rtps_discovery.specs.declared.list.Listed.{Listed}
use Rattle.rtps_discovery.specs.declared.source.Source.{Source}
use Rattle.rtps_discovery.specs.Announcing.{subject, present, Leaves, Says, Announces}
use Rattle.rtps_discovery.specs.Learnt.{HeardFact, IsTold, AreTold, AreAdded, Follows, IsLearnt, counted, IsNewWriter, IsNewReader}
use Rattle.rtps_discovery.specs.Lists.{ListTells, PayloadTells, order_of}
use Rattle.rtps_discovery.specs.Sources.{source_of}
use Rattle.rtps_discovery.proofs.Loop.{tells_once}
use Rattle.rtps_discovery.proofs.Payloads.{same_some, source_again, order_again, front_is, list_is, said_of}

-- ---- one announcement

payload_once : (topics : List Topic) (payload : List ℕ) (l m : Listed) → PayloadTells topics payload l → PayloadTells topics payload m → l ≡ m
payload_once topics payload l m x y =
    let little : x.little ≡ y.little = same_some (order_of (take 2 payload)) x.little y.little (ap order_of (front_is topics payload l x) ∙ order_again x.little) (ap order_of (front_is topics payload m y) ∙ order_again y.little) in
    let list : x.list ≡ y.list = sym (list_is topics payload l x) ∙ list_is topics payload m y in
    tells_once topics y.little y.list l m (subst (λ (b : Bool). ListTells topics b y.list l) little (subst (λ (bs : List ℕ). ListTells topics x.little bs l) list x.tells)) y.tells

leaves_once : (topics : List Topic) (source : Source) (hash : Option (List ℕ)) (payload g h : List ℕ) → Leaves topics source hash payload g → Leaves topics source hash payload h → g ≡ h
leaves_once topics source (Some key) payload g h x y = sym x ∙ y
leaves_once topics source None payload g h x y =
    same_some (subject source y.0) g h (ap (subject source) (sym (payload_once topics payload x.0 y.0 x.1 y.1)) ∙ x.2) y.2

says_once : (topics : List Topic) (source : Source) (raw : Raw) (a b : Announcement) → Says topics source raw a → Says topics source raw b → a ≡ b
says_once topics source raw a b (inl x) (inl y) =
    same_some (present source y.1) a b (ap (present source) (sym (payload_once topics raw.payload x.1 y.1 x.2 y.2)) ∙ x.3) y.3
says_once topics source raw a b (inl x) (inr y) = absurd (y.0 x.0)
says_once topics source raw a b (inr x) (inl y) = absurd (x.0 y.0)
says_once topics source raw a b (inr x) (inr y) = x.3 ∙ ap Gone (leaves_once topics source raw.hash raw.payload x.1 y.1 x.2 y.2) ∙ sym y.3

pub announces_once : (plan : Plan) (writer : List ℕ) (raw : Raw) (a b : Announcement) → Announces plan writer raw a → Announces plan writer raw b → a ≡ b
announces_once plan writer raw a b x y =
    says_once plan.topics y.source raw a b (said_of plan writer raw y.source a (ap source_of y.from ∙ source_again y.source) x) y.says

-- ---- what facts announce

told_once : (plan : Plan) (moment : ℕ) (fact : Fact) (t u : Told) → IsTold plan moment fact t → IsTold plan moment fact u → t ≡ u
told_once plan moment (Data writer reader number raw) t u x y =
    x.0 ∙ ap (λ (a : Announcement). record { writer = writer; number = number; moment = moment; what = a }) (announces_once plan writer raw t.what u.what x.1 y.1) ∙ sym y.0
told_once plan moment (Unreadable writer reader number) t u x y = absurd x
told_once plan moment (Gap writer reader start set) t u x y = absurd x
told_once plan moment (Beat writer reader first last is_final) t u x y = absurd x
told_once plan moment (Nack reader writer set is_final) t u x y = absurd x

all_told_once : (plan : Plan) (facts : List HeardFact) (ts us : List Told) → AreTold plan facts ts → AreTold plan facts us → ts ≡ us
all_told_once plan [] ts us x y = x ∙ sym y
all_told_once plan (h ∷ facts) ts us (inl x) (inl y) =
    x.3 ∙ ap (λ (t : Told). t ∷ x.1) (told_once plan h.moment h.fact x.0 y.0 x.2 y.2) ∙ ap (λ (l : List Told). y.0 ∷ l) (all_told_once plan facts x.1 y.1 x.4 y.4) ∙ sym y.3
all_told_once plan (h ∷ facts) ts us (inl x) (inr y) = absurd (y.0 x.0 x.2)
all_told_once plan (h ∷ facts) ts us (inr x) (inl y) = absurd (x.0 y.0 y.2)
all_told_once plan (h ∷ facts) ts us (inr x) (inr y) = all_told_once plan facts ts us x.1 y.1

-- ---- lists in order

-- membership by recursion
abbrev pub Among : {X : Type 0} → List X → X → Type 0
Among [] x = ⊥
Among (y ∷ ys) x = (y ≡ x) ⊎ Among ys x

pub contains_from : {X : Type 0} (xs : List X) (x : X) → Among xs x → Contains xs x
contains_from [] x h = absurd h
contains_from (y ∷ ys) x (inl e) = subst (λ z. Contains (y ∷ ys) z) e (Contains-append_left (y ∷ []) ys y (Contains-push [] y))
contains_from (y ∷ ys) x (inr h) = Contains-append_right (y ∷ []) ys x (contains_from ys x h)

none_contained : {X : Type 0} (x : X) → Contains [] x → ⊥
none_contained x h = omega (arith, h.1)

pub among_from : {X : Type 0} (xs : List X) (x : X) → Contains xs x → Among xs x
among_from [] x h = absurd (none_contained x h)
among_from (y ∷ ys) x h =
    elim (Contains-append_cases (y ∷ []) ys x h) [
      | inl first ↦
          elim (Contains-push_cases [] y x first) [
            | inl none ↦ absurd (none_contained x none)
            | inr e ↦ inl e
          ]
      | inr later ↦ inr (among_from ys x later)
    ]

pub all_at : {X : Type 0} (P : X → Type 0) (xs : List X) (x : X) → AllByRecursion P xs → Among xs x → P x
all_at P [] x all h = absurd h
all_at P (y ∷ ys) x all (inl e) = subst P e all.0
all_at P (y ∷ ys) x all (inr h) = all_at P ys x all.1 h

abbrev cmp : List ℕ → List ℕ → Ordering
cmp = slice_cmp nat_cmp

abbrev Rises : {L : Type 0} → (L → List ℕ) → List L → Type 0
Rises guid xs = IsStrictlySortedBy cmp (map guid xs)

absurd_less : (o : Ordering) → o ≡ Equal → o ≡ Less → ⊥
absurd_less o e f = cc

pub not_less : (g : List ℕ) → cmp g g ≡ Less → ⊥
not_less g h = absurd_less (cmp g g) (tied_itself nat_list_cmp_total g) h

above_all : {L : Type 0} (guid : L → List ℕ) (g : List ℕ) (xs : List L) (x : L) → AllByRecursion (λ k. cmp g k ≡ Less) (map guid xs) → Among xs x → cmp g (guid x) ≡ Less
above_all guid g [] x all h = absurd h
above_all guid g (y ∷ ys) x all (inl e) = subst (λ z. cmp g (guid z) ≡ Less) e all.0
above_all guid g (y ∷ ys) x all (inr h) = above_all guid g ys x all.1 h

pub later_above : {L : Type 0} (guid : L → List ℕ) (y : L) (ys : List L) (x : L) → Rises guid (y ∷ ys) → Among ys x → cmp (guid y) (guid x) ≡ Less
later_above guid y ys x rises h = above_all guid (guid y) ys x (sorted_head cmp (guid y) (map guid ys) rises) h

heads_same : {L : Type 0} (guid : L → List ℕ) (x y : L) (xs ys : List L) → Rises guid (x ∷ xs) → Rises guid (y ∷ ys) → Among (y ∷ ys) x → Among (x ∷ xs) y → x ≡ y
heads_same guid x y xs ys r s (inl e) h = sym e
heads_same guid x y xs ys r s (inr h) (inl e) = e
heads_same guid x y xs ys r s (inr h) (inr k) =
    absurd (not_less (guid x) (nat_list_cmp_total.trans (guid x) (guid y) (guid x) (later_above guid x xs y r k) (later_above guid y ys x s h)))

tail_in : {L : Type 0} (guid : L → List ℕ) (x y : L) (xs ys : List L) (z : L) → Rises guid (x ∷ xs) → x ≡ y → Among (y ∷ ys) z → Among xs z → Among ys z
tail_in guid x y xs ys z r same (inr h) k = h
tail_in guid x y xs ys z r same (inl e) k =
    absurd (not_less (guid z) (subst (λ w. cmp (guid w) (guid z) ≡ Less) (same ∙ e) (later_above guid x xs z r k)))

-- two rising lists with the same members are one
pub one_list : {L : Type 0} (guid : L → List ℕ) (xs ys : List L) → Rises guid xs → Rises guid ys → ((z : L) → Among xs z → Among ys z) → ((z : L) → Among ys z → Among xs z) → xs ≡ ys
one_list guid [] [] r s f g = refl
one_list guid [] (y ∷ ys) r s f g = absurd (g y (inl refl))
one_list guid (x ∷ xs) [] r s f g = absurd (f x (inl refl))
one_list guid (x ∷ xs) (y ∷ ys) r s f g =
    let same : x ≡ y = heads_same guid x y xs ys r s (f x (inl refl)) (g y (inl refl)) in
    let rest : xs ≡ ys = one_list guid xs ys (sorted_tail cmp (guid x) (map guid xs) r) (sorted_tail cmp (guid y) (map guid ys) s) (λ z h. tail_in guid x y xs ys z r same (f z (inr h)) h) (λ z h. tail_in guid y x ys xs z s (sym same) (g z (inr h)) h) in
    ap (λ z. z ∷ xs) same ∙ ap (λ zs. y ∷ zs) rest

-- ---- the learnt plan

added_once : {L : Type 0} (IsNew : L → Type 0) (guid : L → List ℕ) (old xs ys : List L) → AreAdded IsNew guid old xs → AreAdded IsNew guid old ys → xs ≡ ys
added_once IsNew guid old xs ys x y =
    x.parts ∙ ap (λ zs. old ++ zs) (one_list guid x.lines y.lines x.rising y.rising (λ z h. among_from y.lines z (y.every z (all_at IsNew x.lines z x.new h))) (λ z h. among_from x.lines z (x.every z (all_at IsNew y.lines z y.new h)))) ∙ sym y.parts

follows_once : (plan : Plan) (told : List Told) (now : ℕ) (p q : Plan) → Follows plan told now p → Follows plan told now q → p ≡ q
follows_once plan told now p q x y =
    let writers : p.writers ≡ q.writers = added_once (IsNewWriter plan (counted told) now) (λ w. w.guid) plan.writers p.writers q.writers x.writers y.writers in
    let readers : p.readers ≡ q.readers = added_once (IsNewReader plan (counted told) now) (λ r. r.guid) plan.readers p.readers q.readers x.readers y.readers in
    ap (λ a. record p { prefix = a }) (x.prefix ∙ sym y.prefix) ∙ ap (λ ts. record { prefix = q.prefix; topics = ts; writers = p.writers; readers = p.readers }) (x.topics ∙ sym y.topics) ∙ ap (λ ws. record { prefix = q.prefix; topics = q.topics; writers = ws; readers = p.readers }) writers ∙ ap (λ rs. record { prefix = q.prefix; topics = q.topics; writers = q.writers; readers = rs }) readers

pub learnt_once : (plan : Plan) (facts : List HeardFact) (now : ℕ) (p q : Plan) → IsLearnt plan facts now p → IsLearnt plan facts now q → p ≡ q
learnt_once plan facts now p q x y =
    follows_once plan y.told now p q (subst (λ (ts : List Told). Follows plan ts now p) (all_told_once plan facts x.told y.told x.are_told y.are_told) x.follows) y.follows

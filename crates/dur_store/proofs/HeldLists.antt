-- Held members, by the lists of their samples and of their numbers with moments.
use Rattle.std.proofs.Common.{◌≡◌, ℕ, suc, ◌+◌, ◌<◌, min, Option, Some, Result, Ok, Err, List, [], ◌∷◌, ◌++◌, map, length, take, get_or, refl, sym, ap, ◌∙◌, subst, arith, append-nil, length-append}
use Rattle.std.specs.Prelude.{reverse, option_to_list, IfOk}
use Rattle.std.proofs.lemmas.List.{reverse-append, length-reverse, length-take, take_more, take_all}
use Rattle.dur_base.specs.declared.sample.Sample.{Sample}
use Rattle.dur_view.specs.declared.data.Held.{Held}
use Rattle.dur_view.specs.declared.limit.Limit.{Limit}
use Rattle.dur_instances.specs.Trimmed.{Trimmed}
use Rattle.dur_sets.specs.declared.effect.Before.{Before}
use Rattle.dur_sets.specs.declared.effect.Before.TheVariants.{Close}
use Rattle.dur_sets.specs.declared.effect.Now.{Now}
use Rattle.dur_sets.specs.declared.effect.Now.TheVariants as itself
use Rattle.dur_sets.specs.Tells.{closed, if_now}
use Rattle.dur_store.specs.declared.members.Taken.{Taken}
use Rattle.dur_store.specs.Members.{members_of, IsPassed}
use Rattle.dur_store.specs.Taking.{IsWhole}

abbrev pub member : Sample → Taken → Held
member s t = record { number = t.number; moment = t.moment; sample = s }

pub members-append : (ss rs : List Sample) (ts us : List Taken) → length ts ≡ length ss → members_of (ss ++ rs) (ts ++ us) ≡ members_of ss ts ++ members_of rs us
members-append [] rs [] us is = refl
members-append [] rs (t ∷ ts) us is = absurd (omega (arith, is))
members-append (s ∷ ss) rs [] us is = absurd (omega (arith, is))
members-append (s ∷ ss) rs (t ∷ ts) us is = ap (λ (l : List Held). member s t ∷ l) (members-append ss rs ts us (omega (arith, is)))

pub length-members : (ss : List Sample) (ts : List Taken) → length ts ≡ length ss → length (members_of ss ts) ≡ length ss
length-members [] ts is = refl
length-members (s ∷ ss) [] is = absurd (omega (arith, is))
length-members (s ∷ ss) (t ∷ ts) is = ap suc (length-members ss ts (omega (arith, is)))

pub samples-members : (ss : List Sample) (ts : List Taken) → length ts ≡ length ss → map (λ x. x.sample) (members_of ss ts) ≡ ss
samples-members [] ts is = refl
samples-members (s ∷ ss) [] is = absurd (omega (arith, is))
samples-members (s ∷ ss) (t ∷ ts) is = ap (λ (l : List Sample). s ∷ l) (samples-members ss ts (omega (arith, is)))

pub members-none : (ss : List Sample) (ts : List Taken) (items : List Held) → length ss ≡ 0 → members_of ss ts ≡ items → items ≡ []
members-none [] ts items none view = sym view
members-none (s ∷ ss) ts items none view = absurd (omega (arith, none))

pub none-left : (members rest : List Held) (last : Option Held) → members ≡ rest ++ option_to_list last → members ≡ [] → rest ≡ []
none-left members [] last is none = refl
none-left members (x ∷ rest) last is none = absurd (let e = sym none ∙ is in cc)

-- one more at the end
pub members-push : (ss now : List Sample) (ts then : List Taken) (s : Sample) (t : Taken) (items : List Held) → length ts ≡ length ss → now ≡ ss ++ s ∷ [] → then ≡ ts ++ t ∷ [] → members_of ss ts ≡ items
    → members_of now then ≡ items ++ member s t ∷ []
members-push ss now ts then s t items is more late view =
    ap (λ (l : List Sample). members_of l then) more
    ∙ ap (λ (l : List Taken). members_of (ss ++ s ∷ []) l) late
    ∙ members-append ss (s ∷ []) ts (t ∷ []) is
    ∙ ap (λ (l : List Held). l ++ member s t ∷ []) view

one-less : {X Y : Type 0} (xs rest : List X) (ys left : List Y) (x : X) (y : Y) → length ys ≡ length xs → xs ≡ rest ++ x ∷ [] → ys ≡ left ++ y ∷ [] → length left ≡ length rest
one-less xs rest ys left x y is a b =
    let long = length-append rest (x ∷ []) in
    let wide = length-append left (y ∷ []) in
    let e = ap length a in
    let f = ap length b in
    omega arith

-- the last one is taken away
pub members-pop : (ss rest : List Sample) (ts left : List Taken) (os : Option Sample) (ot : Option Taken) (s : Sample) (t : Taken) (items : List Held) → length ts ≡ length ss
    → ss ≡ rest ++ option_to_list os → ts ≡ left ++ option_to_list ot → os ≡ Some s → ot ≡ Some t → members_of ss ts ≡ items → items ≡ members_of rest left ++ member s t ∷ []
members-pop ss rest ts left os ot s t items is a b os_is ot_is view =
    let one : ss ≡ rest ++ s ∷ [] = a ∙ ap (λ (o : Option Sample). rest ++ option_to_list o) os_is in
    let other : ts ≡ left ++ t ∷ [] = b ∙ ap (λ (o : Option Taken). left ++ option_to_list o) ot_is in
    sym view ∙ members-push rest ss left ts s t (members_of rest left) (one-less ss rest ts left s t is one other) one other refl

pub members-reverse : (ss : List Sample) (ts : List Taken) → length ts ≡ length ss → members_of (reverse ss) (reverse ts) ≡ reverse (members_of ss ts)
members-reverse [] [] is = refl
members-reverse [] (t ∷ ts) is = absurd (omega (arith, is))
members-reverse (s ∷ ss) [] is = absurd (omega (arith, is))
members-reverse (s ∷ ss) (t ∷ ts) is =
    let less : length ts ≡ length ss = omega (arith, is) in
    let turned : length (reverse ts) ≡ length (reverse ss) = length-reverse ts ∙ less ∙ sym (length-reverse ss) in
    members-push (reverse ss) (reverse (s ∷ ss)) (reverse ts) (reverse (t ∷ ts)) s t (reverse (members_of ss ts)) turned (reverse-append (s ∷ []) ss) (reverse-append (t ∷ []) ts) (members-reverse ss ts less)
    ∙ sym (reverse-append (member s t ∷ []) (members_of ss ts))

pub members-reversed : (ss now : List Sample) (ts then : List Taken) (items : List Held) → length ts ≡ length ss → now ≡ reverse ss → then ≡ reverse ts → members_of ss ts ≡ items → members_of now then ≡ reverse items
members-reversed ss now ts then items is a b view =
    ap (λ (l : List Sample). members_of l then) a ∙ ap (λ (l : List Taken). members_of (reverse ss) l) b ∙ members-reverse ss ts is ∙ ap (λ (l : List Held). reverse l) view

pub reverse-last : {X : Type 0} (xs ys : List X) (x : X) → xs ≡ ys ++ x ∷ [] → reverse xs ≡ x ∷ reverse ys
reverse-last xs ys x is = ap reverse is ∙ reverse-append ys (x ∷ [])

-- one more of those from the first on
pub members-more : (ss : List Sample) (ts : List Taken) (i : ℕ) (s : Sample) (t : Taken) (ms : List Held) → length ts ≡ length ss → i < length ss → s ≡ get_or ss i s → t ≡ get_or ts i t
    → ms ≡ members_of (take i ss) (take i ts) → ms ++ member s t ∷ [] ≡ members_of (take (i + 1) ss) (take (i + 1) ts)
members-more ss ts i s t ms is lt a b ms_is =
    let same : length (take i ts) ≡ length (take i ss) = length-take i ts ∙ ap (λ (n : ℕ). min i n) is ∙ sym (length-take i ss) in
    sym
    (members-push (take i ss) (take (i + 1) ss) (take i ts) (take (i + 1) ts) s t ms same
    (take_more ss i s lt ∙ ap (λ (y : Sample). take i ss ++ y ∷ []) (sym a)) (take_more ts i t (omega (arith, lt, is)) ∙ ap (λ (y : Taken). take i ts ++ y ∷ []) (sym b)) (sym ms_is))

-- ---- the samples that take effect

-- a set that is closed is closed whole: its samples lie side by side
closed-samples : (before : Before) (n : ℕ) (ss : List Sample) (ts : List Taken) (items : List Held) → before ≡ Close n → length ts ≡ length ss → members_of ss ts ≡ items → IsWhole before items → ss ≡ map (λ x. x.sample) (closed before items)
closed-samples before n ss ts items is len view whole =
    let all : n ≡ length items = whole n is in
    sym
    (ap (λ (b : Before). map {A = Held} {B = Sample} (λ x. x.sample) (closed b items)) is
    ∙ ap (λ (l : List Held). map {A = Held} {B = Sample} (λ x. x.sample) l) (take_all n items (omega (arith, all)))
    ∙ ap (λ (l : List Held). map {A = Held} {B = Sample} (λ x. x.sample) l) (sym view)
    ∙ samples-members ss ts len)

pub closed-now : (before : Before) (n : ℕ) (now : Now) (x : Sample) (ss : List Sample) (ts : List Taken) (items : List Held) → before ≡ Close n → now ≡ itself.Now → length ts ≡ length ss → members_of ss ts ≡ items → IsWhole before items
    → ss ++ x ∷ [] ≡ map (λ y. y.sample) (closed before items) ++ if_now now x
closed-now before n now x ss ts items is now_is len view whole =
    ap (λ (l : List Sample). l ++ x ∷ []) (closed-samples before n ss ts items is len view whole)
    ∙ ap (λ (k : Now). map {A = Held} {B = Sample} (λ y. y.sample) (closed before items) ++ if_now k x) (sym now_is)

closed-none : (before : Before) (n : ℕ) (now : Now) (x : Sample) (ss : List Sample) (ts : List Taken) (items : List Held) → before ≡ Close n → [] ≡ if_now now x → length ts ≡ length ss → members_of ss ts ≡ items → IsWhole before items
    → ss ≡ map (λ y. y.sample) (closed before items) ++ if_now now x
closed-none before n now x ss ts items is none len view whole =
    closed-samples before n ss ts items is len view whole
    ∙ sym (append-nil (map {A = Held} {B = Sample} (λ y. y.sample) (closed before items)))
    ∙ ap (λ (l : List Sample). map {A = Held} {B = Sample} (λ y. y.sample) (closed before items) ++ l) none

pub closed-hold : (before : Before) (n : ℕ) (now : Now) (x : Sample) (ss : List Sample) (ts : List Taken) (items : List Held) → before ≡ Close n → now ≡ itself.Hold → length ts ≡ length ss → members_of ss ts ≡ items → IsWhole before items
    → ss ≡ map (λ y. y.sample) (closed before items) ++ if_now now x
closed-hold before n now x ss ts items is now_is = closed-none before n now x ss ts items is (ap (λ (k : Now). if_now k x) (sym now_is))

pub closed-drop : (before : Before) (n : ℕ) (now : Now) (x : Sample) (ss : List Sample) (ts : List Taken) (items : List Held) → before ≡ Close n → now ≡ itself.Drop → length ts ≡ length ss → members_of ss ts ≡ items → IsWhole before items
    → ss ≡ map (λ y. y.sample) (closed before items) ++ if_now now x
closed-drop before n now x ss ts items is now_is = closed-none before n now x ss ts items is (ap (λ (k : Now). if_now k x) (sym now_is))

-- the first limit that is passed with the closer behind the members
pub passed-now : {E : Type 0} (r : Result (Option Limit × Sample) E) (topic : Trimmed) (m : ℕ) (before : Before) (n : ℕ) (now : Now) (x : Sample) (ss : List Sample) (ts : List Taken) (items : List Held) → before ≡ Close n → now ≡ itself.Now
    → length ts ≡ length ss → members_of ss ts ≡ items → IfOk r (λ a. IsPassed topic m (ss ++ x ∷ []) a.0)
    → IfOk r (λ a. IsWhole before items → IsPassed topic m (map (λ y. y.sample) (closed before items) ++ if_now now x) a.0)
passed-now (Ok a) topic m before n now x ss ts items is now_is len view passed = λ whole. subst (λ (l : List Sample). IsPassed topic m l a.0) (closed-now before n now x ss ts items is now_is len view whole) passed
passed-now (Err e) topic m before n now x ss ts items is now_is len view passed = tt

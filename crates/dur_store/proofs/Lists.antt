-- Lists with one more at their ends, and loops that use a list up.
use Rattle.std.proofs.Common.{◌≡◌, ℕ, zero, suc, ◌+◌, ◌≤◌, ◌<◌, get_or, ◌⊎◌, inl, inr, Some, None, List, [], ◌∷◌, ◌++◌, map, length, refl, sym, ap, ◌∙◌, subst, arith, append_assoc, append-nil, length-append}
use Rattle.std.specs.Prelude.{slice_get, option_map}
use Rattle.std.proofs.lemmas.Option.{slice_get-get_or, slice_get_past}
use Rattle.dur_view.specs.History.{History}
use Rattle.dur_view.specs.Past.{Past, ◌▹◌, ◌▹▹◌}
use Rattle.dur_view.specs.declared.change.TopicEvent.{TopicEvent}
use Rattle.dur_instances.specs.Trimmed.{Trimmed}
use Rattle.dur_instances.specs.Stands.{Stands}
use Rattle.dur_store.specs.Parts.{IsTopic, AreTopics}

-- what is done and what is left make the whole
pub step-more : {X Y : Type 0} (f : X → Y) (done now : List Y) (x : X) (rest later : List X) (all : List Y) → rest ≡ x ∷ later → now ≡ done ++ f x ∷ [] → done ++ map f rest ≡ all → now ++ map f later ≡ all
step-more f done now x rest later all is more whole =
    ap (λ l. l ++ map f later) more ∙ append_assoc done (f x ∷ []) (map f later) ∙ sym (ap (λ l. done ++ map f l) is) ∙ whole

pub step-one : {X : Type 0} (done now : List X) (x : X) (rest later all : List X) → rest ≡ x ∷ later → now ≡ done ++ x ∷ [] → done ++ rest ≡ all → now ++ later ≡ all
step-one done now x rest later all is more whole =
    ap (λ l. l ++ later) more ∙ append_assoc done (x ∷ []) later ∙ sym (ap (λ l. done ++ l) is) ∙ whole

pub done-more : {X Y : Type 0} (f : X → Y) (done : List Y) (rest : List X) (all : List Y) → length rest ≤ 0 → done ++ map f rest ≡ all → done ≡ all
done-more f done [] all few whole = sym (append-nil done) ∙ whole
done-more f done (x ∷ rest) all few whole = absurd (omega (arith, few))

pub done-one : {X : Type 0} (done rest all : List X) → length rest ≤ 0 → done ++ rest ≡ all → done ≡ all
done-one done [] all few whole = sym (append-nil done) ∙ whole
done-one done (x ∷ rest) all few whole = absurd (omega (arith, few))

-- what stands at a place
pub get-push : {X : Type 0} (xs : List X) (x : X) (t : ℕ) (y : X) → slice_get (xs ++ x ∷ []) t ≡ Some y → (slice_get xs t ≡ Some y) ⊎ ((t ≡ length xs) × (Some x ≡ Some y))
get-push [] x zero y at = inr (refl, at)
get-push [] x (suc t) y at = absurd (cc)
get-push (z ∷ xs) x zero y at = inl at
get-push (z ∷ xs) x (suc t) y at = later (get-push xs x t y at)
  where
    later : (slice_get xs t ≡ Some y) ⊎ ((t ≡ length xs) × (Some x ≡ Some y)) → (slice_get xs t ≡ Some y) ⊎ ((suc t ≡ suc (length xs)) × (Some x ≡ Some y))
    later (inl here) = inl here
    later (inr last) = inr (ap suc last.0, last.1)

pub get-map : {X Y : Type 0} (f : X → Y) (xs : List X) (i : ℕ) → slice_get (map f xs) i ≡ option_map f (slice_get xs i)
get-map f [] i = refl
get-map f (x ∷ xs) zero = refl
get-map f (x ∷ xs) (suc i) = get-map f xs i

-- one topic more
topic-by : (xs : List Trimmed) (x : Trimmed) (h : History) (t : ℕ) (y : Trimmed) → AreTopics xs h → IsTopic (length xs) h x → (slice_get xs t ≡ Some y) ⊎ ((t ≡ length xs) × (Some x ≡ Some y)) → IsTopic t h y
topic-by xs x h t y are one (inl here) = are t y here
topic-by xs x h t y are one (inr last) =
    let is : x ≡ y = (let e = last.1 in cc) in
    subst (λ (n : ℕ). IsTopic n h y) (sym last.0) (subst (IsTopic (length xs) h) is one)

pub topics-push : (xs : List Trimmed) (x : Trimmed) (h : History) (n : ℕ) → n ≡ length xs → AreTopics xs h → IsTopic n h x → AreTopics (xs ++ x ∷ []) h
topics-push xs x h n is are one t y at = topic-by xs x h t y are (subst (λ (k : ℕ). IsTopic k h x) is one) (get-push xs x t y at)

-- members that take effect: the past so far, and what is left
pub record IsBringing (topic : Trimmed) (p : Past) (all rest : List TopicEvent) : Type 0 where
  pub now : Past
  pub stands : Stands topic now
  pub joins : now ▹▹ rest ≡ p ▹▹ all

pub bringing-start : (topic : Trimmed) (p : Past) (all rest : List TopicEvent) → rest ≡ all → Stands topic p → IsBringing topic p all rest
bringing-start topic p all rest is st = record { now = p; stands = st; joins = ap (λ (l : List TopicEvent). p ▹▹ l) is }

pub bringing-more : (old new : Trimmed) (p : Past) (all rest later : List TopicEvent) (e : TopicEvent) → rest ≡ e ∷ later → IsBringing old p all rest → ((q : Past) → Stands old q → Stands new (q ▹ e)) → IsBringing new p all later
bringing-more old new p all rest later e is b step = record { now = b.now ▹ e; stands = step b.now b.stands; joins = ap (λ (l : List TopicEvent). b.now ▹▹ l) (sym is) ∙ b.joins }

pub brought-all : (topic : Trimmed) (p : Past) (all rest : List TopicEvent) → rest ≡ [] → IsBringing topic p all rest → Stands topic (p ▹▹ all)
brought-all topic p all rest none b = subst (λ (q : Past). Stands topic q) (ap (λ (l : List TopicEvent). b.now ▹▹ l) (sym none) ∙ b.joins) b.stands

pub none-mapped : {X Y : Type 0} (f : X → Y) (xs : List X) → length xs ≤ 0 → map f xs ≡ []
none-mapped f [] few = refl
none-mapped f (x ∷ xs) few = absurd (omega (arith, few))

pub length-push : {X : Type 0} (xs ys : List X) (x : X) (n : ℕ) → n ≡ length xs → ys ≡ xs ++ x ∷ [] → n + 1 ≡ length ys
length-push xs ys x n is more =
    let long = length-append xs (x ∷ []) in
    let same = ap length more in
    omega arith

-- what a call of `get` says
pub got : {X : Type 0} (xs ys : List X) (i : ℕ) (x : X) → ys ≡ xs → i < length ys → x ≡ get_or ys i x → slice_get xs i ≡ Some x
got xs ys i x same lt is = ap (λ l. slice_get l i) (sym same) ∙ slice_get-get_or ys i x lt ∙ ap Some (sym is)

pub got-none : {X : Type 0} (xs ys : List X) (i : ℕ) → ys ≡ xs → length ys ≤ i → slice_get xs i ≡ None
got-none xs ys i same le = ap (λ l. slice_get l i) (sym same) ∙ slice_get_past ys i le

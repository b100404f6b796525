-- Places of open samples.
use Rattle.std.proofs.Common.{◌≡◌, ℕ, zero, suc, ◌+◌, ◌-◌, ◌<◌, ◌≤◌, List, [], ◌∷◌, ◌++◌, length, take, drop, set, get_or, refl, ap, sym, ◌∙◌, arith}
use Rattle.std.proofs.lemmas.List.{take-append-le, length-take, length-append}
use Rattle.std.specs.List.{remove}
use Rattle.std.specs.Prelude.{Bool, true, false, Option, Result, Ok, Err, IfOk, if◌then◌else◌}
use Rattle.std.proofs.lemmas.Bool.{le-ltb}
use Rattle.dur_base.specs.declared.fact.Fact.{Fact}
use Rattle.rtps_frag.specs.Bodies.{Fragments}
use Rattle.rtps_frag.specs.Samples.{Opened, is_alike, opening, with_fragments}
use Rattle.rtps_frag.specs.Joining.{After, settled, again, anew, with_room}

-- one rotated to the end
pub rotated : {X : Type 0} (xs : List X) (i : ℕ) → i < length xs → take i xs ++ (drop 1 (drop i xs) ++ take 1 (drop i xs)) ≡ remove xs i ++ take 1 (drop i xs)
rotated [] i within = absurd (omega (arith, within))
rotated (x ∷ xs) zero within = refl
rotated {X = X} (x ∷ xs) (suc i) within = ap (λ (t : List X). x ∷ t) (rotated xs i (omega (arith, within)))

-- the first ones, without it
pub closed : {X : Type 0} (xs : List X) (c i : ℕ) (ys : List X) → i ≤ c → c < length xs → take c (remove xs i ++ ys) ≡ remove (take (suc c) xs) i
closed [] c i ys within room = absurd (omega (arith, room))
closed (x ∷ xs) c zero ys within room = take-append-le c xs ys (omega (arith, room))
closed (x ∷ xs) zero (suc i) ys within room = absurd (omega (arith, within))
closed {X = X} (x ∷ xs) (suc c) (suc i) ys within room = ap (λ (t : List X). x ∷ t) (closed xs c i ys (omega (arith, within)) (omega (arith, room)))

pub closed_at : {X : Type 0} (xs after ys : List X) (count i : ℕ) → after ≡ remove xs i ++ ys → i < length (take count xs) → count ≤ length xs → take (count - 1) after ≡ remove (take count xs) i
closed_at xs after ys zero i after_is within room = absurd (omega (arith, within))
closed_at xs after ys (suc c) i after_is within room =
    let early : i < suc c = omega (arith, within, length-take (suc c) xs) in
    let less : suc c - 1 ≡ c = omega arith in
    rw (after_is, less) (closed xs c i ys (omega (arith, early)) (omega (arith, room)))

-- one more behind the first ones
pub added : {X : Type 0} (xs : List X) (c : ℕ) (y : X) → c < length xs → take (suc c) (set xs c y) ≡ take c xs ++ y ∷ []
added [] c y room = absurd (omega (arith, room))
added (x ∷ xs) zero y room = refl
added {X = X} (x ∷ xs) (suc c) y room = ap (λ (t : List X). x ∷ t) (added xs c y (omega (arith, room)))

-- the one behind them
pub last_at : {X : Type 0} (xs : List X) (y d : X) → get_or (xs ++ y ∷ []) (length xs) d ≡ y
last_at [] y d = refl
last_at (x ∷ xs) y d = last_at xs y d

pub last_removed : {X : Type 0} (xs : List X) (y : X) → remove (xs ++ y ∷ []) (length xs) ≡ xs
last_removed [] y = refl
last_removed {X = X} (x ∷ xs) y = ap (λ (t : List X). x ∷ t) (last_removed xs y)

-- a changed one is removed as it was
pub removed_set : {X : Type 0} (xs : List X) (i : ℕ) (y : X) → i < length xs → remove (set xs i y) i ≡ remove xs i
removed_set [] i y within = absurd (omega (arith, within))
removed_set (x ∷ xs) zero y within = refl
removed_set {X = X} (x ∷ xs) (suc i) y within = ap (λ (t : List X). x ∷ t) (removed_set xs i y (omega (arith, within)))

-- one that changes among the first ones
pub set_first : {X : Type 0} (xs : List X) (c i : ℕ) (y : X) → take c (set xs i y) ≡ set (take c xs) i y
set_first [] zero i y = refl
set_first [] (suc c) i y = refl
set_first (x ∷ xs) zero zero y = refl
set_first (x ∷ xs) zero (suc i) y = refl
set_first (x ∷ xs) (suc c) zero y = refl
set_first {X = X} (x ∷ xs) (suc c) (suc i) y = ap (λ (t : List X). x ∷ t) (set_first xs c i y)

pub get_first : {X : Type 0} (xs : List X) (c i : ℕ) (d : X) → i < length (take c xs) → get_or (take c xs) i d ≡ get_or xs i d
get_first xs zero i d within = absurd (omega (arith, within))
get_first [] (suc c) i d within = refl
get_first (x ∷ xs) (suc c) zero d within = refl
get_first (x ∷ xs) (suc c) (suc i) d within = get_first xs c i d (omega (arith, within))

pub get_set : {X : Type 0} (xs : List X) (i : ℕ) (y d : X) → i < length xs → get_or (set xs i y) i d ≡ y
get_set [] i y d within = absurd (omega (arith, within))
get_set (x ∷ xs) zero y d within = refl
get_set (x ∷ xs) (suc i) y d within = get_set xs i y d (omega (arith, within))

-- a place does not depend on what stands for nothing
pub get_any : {X : Type 0} (xs : List X) (i : ℕ) (d e : X) → i < length xs → get_or xs i d ≡ get_or xs i e
get_any [] i d e within = absurd (omega (arith, within))
get_any (x ∷ xs) zero d e within = refl
get_any (x ∷ xs) (suc i) d e within = get_any xs i d e (omega (arith, within))

-- ---- what a DATA_FRAG does

pub alike : (time : Option ℕ) (f : Fragments) (o d : Opened) (i : ℕ) (os between : List Opened) (a : After) → is_alike o f ≡ true → i < length os → between ≡ set os i (with_fragments time f o)
    → a ≡ settled (get_or between i d) (remove between i) between → a ≡ again time f o i os
alike time f o d i os between a same within between_is a_is =
    let p = with_fragments time f o in
    rw (same) (a_is ∙ rw (between_is, get_set os i p d within, removed_set os i p within) refl)

-- the open samples and what is told
abbrev pub made : List Opened → Option Fact → After
made samples fact = record { samples = samples; fact = fact }

pub put_first : (put : Bool) (xs new : List Opened) (c i : ℕ) (w : Opened → Opened) (d : Opened) → i < length (take c xs) → new ≡ (if put then set xs i (w (get_or xs i d)) else xs)
    → take c new ≡ (if put then set (take c xs) i (w (get_or (take c xs) i d)) else take c xs)
put_first true xs new c i w d within new_is = rw (new_is) (set_first xs c i (w (get_or xs i d)) ∙ ap (λ (o : Opened). set (take c xs) i (w o)) (sym (get_first xs c i d within)))
put_first false xs new c i w d within new_is = rw (new_is) refl

pub again_all : {E : Type 0} (r : Result (Option Fact) E) (time : Option ℕ) (f : Fragments) (i : ℕ) (os between new : List Opened) → i < length os → ((d : Opened) → true ≡ is_alike (get_or os i d) f)
    → ((d : Opened) → between ≡ set os i (with_fragments time f (get_or os i d))) → IfOk r (λ fact. (d : Opened) → made new fact ≡ settled (get_or between i d) (remove between i) between)
    → IfOk r (λ fact. (d : Opened) → made new fact ≡ again time f (get_or os i d) i os)
again_all (Ok fact) time f i os between new within same between_is told = λ d. alike time f (get_or os i d) d i os between (made new fact) (sym (same d)) within (between_is d) (told d)
again_all (Err e) time f i os between new within same between_is told = tt

pub anew_all : {E : Type 0} (r : Result (Option Fact) E) (writer : List ℕ) (time : Option ℕ) (f : Fragments) (os room between new : List Opened) (i : ℕ) → f.head.size ≤ 65344 → room ≡ with_room os
    → between ≡ room ++ with_fragments time f (opening writer f) ∷ [] → i + 1 ≡ length between → IfOk r (λ fact. (d : Opened) → made new fact ≡ settled (get_or between i d) (remove between i) between)
    → IfOk r (λ fact. made new fact ≡ anew writer time f os)
anew_all (Ok fact) writer time f os room between new i fits room_is between_is i_is told =
    let p = with_fragments time f (opening writer f) in
    let len : length between ≡ length room + 1 = ap length between_is ∙ length-append room (p ∷ []) in
    let place : i ≡ length room = omega (arith, i_is, len) in
    let at : made new fact ≡ settled (get_or (room ++ p ∷ []) (length room) p) (remove (room ++ p ∷ []) (length room)) (room ++ p ∷ []) = rw (← place, ← between_is) (told p) in
    let last : made new fact ≡ settled p room (room ++ p ∷ []) = at ∙ rw (last_at room p p, last_removed room p) refl in
    rw (le-ltb 65344 f.head.size fits, ← room_is) last
anew_all (Err e) writer time f os room between new i fits room_is between_is i_is told = tt

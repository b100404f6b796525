-- One sample more is handled: what is handed out then.
use Rattle.std.proofs.Common.{◌≡◌, ℕ, ◌≤◌, Bool, true, false, cond, List, [], ◌∷◌, ◌++◌, map, take, length, refl, ap, sym, ◌∙◌, arith}
use Rattle.std.specs.Prelude.{Option, Some, None, is_some, ◌&&◌, ◌||◌}
use Rattle.std.specs.List.{list_all}
use Rattle.std.proofs.lemmas.Bool.{eqb-true, and_parts}
use Rattle.std.proofs.lemmas.List.{take-append-le, take_all, length-append}
use Rattle.dur_base.specs.declared.sample.Sample.{Sample}
use Rattle.rel_writer.specs.declared.taken.Taken.{Taken}
use Rattle.rel_writer.specs.declared.taken.Replayed.{Replayed}
use Rattle.rel_writer.specs.Sets.{is_marker, set_of, is_same_set, is_open, handed, any_marker, unmarked, last_set}
use Rattle.rel_writer.specs.Standing.{Holds, replayed}

and_assoc : (a b c : Bool) → (a && (b && c)) ≡ ((a && b) && c)
and_assoc true b c = refl
and_assoc false b c = refl

and_on : (a : Bool) → (a && true) ≡ a
and_on true = refl
and_on false = refl

or_assoc : (a b c : Bool) → (a || (b || c)) ≡ ((a || b) || c)
or_assoc true b c = refl
or_assoc false b c = refl

or_off : (a : Bool) → (a || false) ≡ a
or_off true = refl
or_off false = refl

all_push : (p : Sample → Bool) (xs : List Sample) (s : Sample)
    → list_all p (xs ++ s ∷ []) ≡ (list_all p xs && p s)
all_push p [] s = and_on (p s)
all_push p (x ∷ xs) s = ap (λ t. p x && t) (all_push p xs s) ∙ and_assoc (p x) (list_all p xs) (p s)

same_set : (o p : Option ℕ) → is_same_set o p ≡ true → p ≡ o
same_set (Some f) (Some g) h = ap (λ n. Some n) (sym (eqb-true f g h))
same_set (Some f) None h = cc
same_set None p h = cc

-- the last of members of one set is one of it
last_open : (o : Option ℕ) (xs : List Sample) → list_all (λ x. is_same_set o (set_of x)) xs ≡ true
    → last_set o xs ≡ o
last_open o [] h = refl
last_open o (x ∷ xs) h =
    let p = and_parts (is_same_set o (set_of x)) (list_all (λ y. is_same_set o (set_of y)) xs) h in
    let e : set_of x ≡ o = same_set o (set_of x) p.0 in
    ap (λ q. last_set q xs) e ∙ last_open o xs p.1

some_of_same : (o p : Option ℕ) → is_same_set o p ≡ true → is_some p ≡ true
some_of_same (Some f) (Some g) h = refl
some_of_same (Some f) None h = cc
some_of_same None p h = cc

-- is the first of them open, does the new one continue it, is the new one of a set, does it
-- continue the last set, is the first a marker
step : (a d s e m : Bool) (x : Sample) (n h u v : List Sample) → (a ≡ true → e ≡ d)
    → (d ≡ true → s ≡ true) → n ≡ cond s (cond e h u) v
    → cond (a && d) [] (cond m n (x ∷ n))
    ≡ cond s (cond e (cond a [] (cond m h (x ∷ h))) (cond m u (x ∷ u))) (cond m v (x ∷ v))
step true true true true m x n h u v ed ds is = refl
step true true true false m x n h u v ed ds is = let no : false ≡ true = ed refl in cc
step true true false e m x n h u v ed ds is = let no : false ≡ true = ds refl in cc
step true false true true m x n h u v ed ds is = let no : true ≡ false = ed refl in cc
step true false true false m x n h u v ed ds is = ap (λ t. cond m t (x ∷ t)) is
step true false false e m x n h u v ed ds is = ap (λ t. cond m t (x ∷ t)) is
step false d true true m x n h u v ed ds is = ap (λ t. cond m t (x ∷ t)) is
step false d true false m x n h u v ed ds is = ap (λ t. cond m t (x ∷ t)) is
step false d false e m x n h u v ed ds is = ap (λ t. cond m t (x ∷ t)) is

first_one : (o : Option ℕ) (e m : Bool) (s : Sample) → set_of s ≡ o
    → cond (is_some o && true) [] (cond m [] (s ∷ []))
    ≡ cond (is_some o) (cond e [] []) (cond m [] (s ∷ []))
first_one (Some f) true m s h = refl
first_one (Some f) false m s h = refl
first_one None e m s h = refl

handed-push : (o : Option ℕ) (xs : List Sample) (s : Sample)
    → handed (xs ++ s ∷ [])
    ≡ cond (is_some (set_of s))
    (cond (is_same_set (last_set o xs) (set_of s)) (handed xs) (unmarked xs))
    (unmarked (xs ++ s ∷ []))
handed-push o [] s = first_one (set_of s) (is_same_set o (set_of s)) (is_marker s) s refl
handed-push o (x ∷ xs) s =
    let all = list_all (λ y. is_same_set (set_of x) (set_of y)) xs in
    let opened : is_open x (xs ++ s ∷ []) ≡ (is_open x xs && is_same_set (set_of x) (set_of s)) =
    ap (λ t. is_some (set_of x) && t) (all_push (λ y. is_same_set (set_of x) (set_of y)) xs s)
    ∙ and_assoc (is_some (set_of x)) all (is_same_set (set_of x) (set_of s)) in
    ap (λ b. cond b [] (cond (is_marker x) (handed (xs ++ s ∷ [])) (x ∷ handed (xs ++ s ∷ []))))
    opened
    ∙ step (is_open x xs) (is_same_set (set_of x) (set_of s)) (is_some (set_of s))
    (is_same_set (last_set (set_of x) xs) (set_of s)) (is_marker x) x (handed (xs ++ s ∷ []))
    (handed xs) (unmarked xs) (unmarked (xs ++ s ∷ []))
    (λ a. ap (λ q. is_same_set q (set_of s))
    (last_open (set_of x) xs (and_parts (is_some (set_of x)) all a).1))
    (λ d. some_of_same (set_of x) (set_of s) d)
    (handed-push (set_of x) xs s)

pub last-push : (o : Option ℕ) (xs : List Sample) (s : Sample)
    → last_set o (xs ++ s ∷ []) ≡ set_of s
last-push o [] s = refl
last-push o (x ∷ xs) s = last-push (set_of x) xs s

pub marker-push : (xs : List Sample) (s : Sample)
    → any_marker (xs ++ s ∷ []) ≡ (any_marker xs || is_marker s)
marker-push [] s = or_off (is_marker s)
marker-push (x ∷ xs) s = ap (λ t. is_marker x || t) (marker-push xs s)
    ∙ or_assoc (is_marker x) (any_marker xs) (is_marker s)

kept_one : (a b : Bool) (x s : Sample) (ys zs : List Sample) → ys ≡ cond b zs (zs ++ s ∷ [])
    → cond a ys (x ∷ ys) ≡ cond b (cond a zs (x ∷ zs)) (cond a zs (x ∷ zs) ++ s ∷ [])
kept_one true true x s ys zs e = e
kept_one true false x s ys zs e = e
kept_one false true x s ys zs e = ap (λ t. x ∷ t) e
kept_one false false x s ys zs e = ap (λ t. x ∷ t) e

unmarked-push : (xs : List Sample) (s : Sample)
    → unmarked (xs ++ s ∷ []) ≡ cond (is_marker s) (unmarked xs) (unmarked xs ++ s ∷ [])
unmarked-push [] s = refl
unmarked-push (x ∷ xs) s =
    kept_one (is_marker x) (is_marker s) x s (unmarked (xs ++ s ∷ [])) (unmarked xs)
    (unmarked-push xs s)

map_kept : (m : Bool) (xs : List Sample) (s : Sample) (items : List Replayed)
    → items ≡ map replayed xs
    → cond m items (items ++ replayed s ∷ []) ≡ map replayed (cond m xs (xs ++ s ∷ []))
map_kept true xs s items e = e
map_kept false xs s items e = ap (λ t. t ++ replayed s ∷ []) e ∙ go xs where
  go : (ys : List Sample) → map replayed ys ++ replayed s ∷ [] ≡ map replayed (ys ++ s ∷ [])
  go [] = refl
  go (y ∷ ys) = ap (λ t. replayed y ∷ t) (go ys)

-- the samples that are kept, before and after, have a common front
front_kept : (m : Bool) (old more new : List Replayed) (n : ℕ) → new ≡ cond m old (old ++ more)
    → n ≤ length old → take n new ≡ take n old
front_kept true old more new n e h = ap (take n) e
front_kept false old more new n e h = ap (take n) e ∙ take-append-le n old more h

longer : (m : Bool) (old more new : List Replayed) → new ≡ cond m old (old ++ more)
    → length old ≤ length new
longer true old more new e = omega (arith, ap length e)
longer false old more new e = omega (arith, ap length e, length-append old more)

closing : (s e : Bool) (old more new : List Replayed) (m : Bool) (n : ℕ) (h u v : List Sample)
    → new ≡ cond m old (old ++ more) → n ≤ length old → take n old ≡ map replayed h
    → old ≡ map replayed u → new ≡ map replayed v
    → (take (cond s (cond e n (length old)) (length new)) new
    ≡ map replayed (cond s (cond e h u) v))
    × (cond s (cond e n (length old)) (length new) ≤ length new)
closing true true old more new m n h u v is small front was now =
    (front_kept m old more new n is small ∙ front, omega (arith, longer m old more new is, small))
closing true false old more new m n h u v is small front was now = (
  front_kept m old more new (length old) is (omega arith)
      ∙ take_all (length old) old (omega arith) ∙ was,
  longer m old more new is,
)
closing false e old more new m n h u v is small front was now =
    (take_all (length new) new (omega arith) ∙ now, omega arith)

pub added : (t u : Taken) (xs : List Sample) (s : Sample) → Holds t xs
    → u.samples.items ≡ cond (is_marker s) t.samples.items (t.samples.items ++ replayed s ∷ [])
    → u.closed ≡ cond (is_some (set_of s))
    (cond (is_same_set t.set (set_of s)) t.closed (length t.samples.items))
    (length u.samples.items) → u.set ≡ set_of s → u.done ≡ (t.done || is_marker s)
    → Holds u (xs ++ s ∷ [])
added t u xs s h items closed set done =
    let now : u.samples.items ≡ map replayed (unmarked (xs ++ s ∷ [])) =
    items ∙ map_kept (is_marker s) (unmarked xs) s t.samples.items h.samples
    ∙ ap (map replayed) (sym (unmarked-push xs s)) in
    let is : u.closed
    ≡ cond (is_some (set_of s))
    (cond (is_same_set (last_set None xs) (set_of s)) t.closed (length t.samples.items))
    (length u.samples.items) =
    closed ∙ ap (λ q. cond (is_some (set_of s))
    (cond (is_same_set q (set_of s)) t.closed (length t.samples.items)) (length u.samples.items))
    h.last in
    let both = closing (is_some (set_of s)) (is_same_set (last_set None xs) (set_of s))
    t.samples.items (replayed s ∷ []) u.samples.items (is_marker s) t.closed (handed xs)
    (unmarked xs) (unmarked (xs ++ s ∷ [])) items h.within h.taken h.samples now in
    record {
      samples = now;
      taken = ap (λ n. take n u.samples.items) is ∙ both.0
          ∙ ap (map replayed) (sym (handed-push None xs s));
      within = omega (arith, is, both.1);
      last = set ∙ sym (last-push None xs s);
      done = done ∙ ap (λ b. b || is_marker s) h.done ∙ sym (marker-push xs s);
    }

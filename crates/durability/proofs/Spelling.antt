-- What a word looks like to clap, and how it is spelled.
use Rattle.std.proofs.Common.{◌≡◌, ◌≢◌, ◌<◌, ◌==◌, ℕ, zero, suc, Bool, true, false, List, [], ◌∷◌, ◌++◌, length, get_or, Option, Some, None, refl, sym, ap, ◌∙◌, arith}
use Rattle.std.specs.Str.{bytes_eq}
use Rattle.std.specs.List.{list_any}
use Rattle.std.proofs.lemmas.Bool.Decides.{nat_tests}
use Rattle.std.proofs.lemmas.Slice.Eq.{bytes_eq-Decides}
use Rattle.clap.specs.Lexer.{name_and_value, long_of, long_of_rest, short_of}
use Rattle.clap.specs.Walk.{Text}
use Rattle.clap.proofs.CutLemmas.{Lacks}
use Rattle.clap.proofs.LexerLemmas.{name_and_value-at, name_and_value-without}
use Rattle.durability.specs.Options.{dashed, IsPlain}

pub eq_of : (a b : List ℕ) → bytes_eq a b ≡ true → a ≡ b
eq_of a b h = (bytes_eq-Decides a b).0 h

pub eq_same : (a : List ℕ) → bytes_eq a a ≡ true
eq_same a = (bytes_eq-Decides a a).1 refl

pub bool_no : (b : Bool) → b ≡ true → b ≡ false → ⊥
bool_no b t f = let both : true ≡ false = sym t ∙ f in absurd cc

pub eq_not : (a b : List ℕ) → a ≢ b → bytes_eq a b ≡ false
eq_not a b ne = go (bytes_eq a b) refl where
  go : (t : Bool) → bytes_eq a b ≡ t → t ≡ false
  go true e = absurd (ne (eq_of a b e))
  go false e = refl

-- ---- a text without `=`

lacks_of : (c : ℕ) (xs : List ℕ) → list_any (λ x. x == c) xs ≡ false → Lacks c xs
lacks_of c [] h = λ i lt. absurd (omega arith)
lacks_of c (x ∷ xs) h = go (x == c) refl (λ m. lacks_of c xs m) where
  each : (x == c) ≡ false → Lacks c xs → (i : ℕ) → i < length (x ∷ xs) → get_or (x ∷ xs) i 0 ≢ c
  each e rest zero lt is = let same : (x == c) ≡ true = grind (arith, nat_tests) in bool_no (x == c) same e
  each e rest (suc i) lt is = rest i (omega arith) is

  go : (t : Bool) → (x == c) ≡ t → (list_any (λ y. y == c) xs ≡ false → Lacks c xs) → Lacks c (x ∷ xs)
  go true e later = absurd (bool_no (list_any (λ y. y == c) (x ∷ xs)) (rw e refl) h)
  go false e later = each e (later (rw e at h))

-- a text cut at its first `=`
cut : (c : ℕ) (xs : List ℕ) → list_any (λ x. x == c) xs ≡ true → (ys : List ℕ) × (zs : List ℕ) × (xs ≡ ys ++ c ∷ zs) × (list_any (λ x. x == c) ys ≡ false)
cut c [] h = absurd cc
cut c (x ∷ xs) h = go (x == c) refl (λ m. cut c xs m) where
  go : (t : Bool) → (x == c) ≡ t → (list_any (λ y. y == c) xs ≡ true → (ys : List ℕ) × (zs : List ℕ) × (xs ≡ ys ++ c ∷ zs) × (list_any (λ y. y == c) ys ≡ false))
      → (ys : List ℕ) × (zs : List ℕ) × (x ∷ xs ≡ ys ++ c ∷ zs) × (list_any (λ y. y == c) ys ≡ false)
  go true e later = let same : x ≡ c = grind (arith, nat_tests) in ([], xs, ap (λ n. n ∷ xs) same, refl)
  go false e later =
      let r = later (rw e at h) in
      (x ∷ r.0, r.1, ap (λ l. x ∷ l) r.2, rw e r.3)

-- ---- a word from its long form

front : (w : List ℕ) (p : Text × Option Text) → long_of w ≡ Some p → (r : List ℕ) × (w ≡ dashed r) × (name_and_value r ≡ p)
front [] p h = absurd cc
front (x ∷ []) p h = go (x == 45) refl where
  go : (t : Bool) → (x == 45) ≡ t → (r : List ℕ) × (x ∷ [] ≡ dashed r) × (name_and_value r ≡ p)
  go true e = let no = rw e at h in absurd cc
  go false e = let no = rw e at h in absurd cc
front (x ∷ y ∷ r) p h = go (x == 45) (y == 45) refl refl where
  rest : (r : List ℕ) → long_of_rest r ≡ Some p → (s : List ℕ) × (r ≡ s) × (name_and_value s ≡ p)
  rest [] k = absurd cc
  rest (z ∷ zs) k = (z ∷ zs, refl, cc)

  go : (t u : Bool) → (x == 45) ≡ t → (y == 45) ≡ u → (s : List ℕ) × (x ∷ y ∷ r ≡ dashed s) × (name_and_value s ≡ p)
  go true true e f =
      let a : x ≡ 45 = grind (arith, nat_tests) in
      let b : y ≡ 45 = grind (arith, nat_tests) in
      let s = rest r (rw (e, f) at h) in
      (s.0, ap (λ n. n ∷ y ∷ r) a ∙ ap (λ n. 45 ∷ n ∷ r) b ∙ ap dashed s.1, s.2)
  go true false e f = let no = rw (e, f) at h in absurd cc
  go false u e f = let no = rw e at h in absurd cc

name_of : Text × Option Text → Text
name_of p = p.0

pub spelled_apart : (w n : List ℕ) → long_of w ≡ Some (n, None) → w ≡ dashed n
spelled_apart w n h = go (list_any (λ x. x == 61) f.0) refl where
  f : (r : List ℕ) × (w ≡ dashed r) × (name_and_value r ≡ (n, None))
  f = front w (n, None) h

  go : (t : Bool) → list_any (λ x. x == 61) f.0 ≡ t → w ≡ dashed n
  go true e =
      let k = cut 61 f.0 e in
      let both : (k.0, Some k.1) ≡ (n, None) = sym (name_and_value-at k.0 k.1 (lacks_of 61 k.0 k.3)) ∙ ap name_and_value (sym k.2) ∙ f.2 in
      let no : Some k.1 ≡ None = ap (λ (p : Text × Option Text). p.1) both in
      absurd cc
  go false e =
      let both : (f.0, None) ≡ (n, None) = sym (name_and_value-without f.0 (lacks_of 61 f.0 e)) ∙ f.2 in
      f.1 ∙ ap dashed (ap (λ (p : Text × Option Text). p.0) both)

pub spelled_joined : (w n v : List ℕ) → long_of w ≡ Some (n, Some v) → w ≡ dashed (n ++ 61 ∷ v)
spelled_joined w n v h = go (list_any (λ x. x == 61) f.0) refl where
  f : (r : List ℕ) × (w ≡ dashed r) × (name_and_value r ≡ (n, Some v))
  f = front w (n, Some v) h

  go : (t : Bool) → list_any (λ x. x == 61) f.0 ≡ t → w ≡ dashed (n ++ 61 ∷ v)
  go true e =
      let k = cut 61 f.0 e in
      let both : (k.0, Some k.1) ≡ (n, Some v) = sym (name_and_value-at k.0 k.1 (lacks_of 61 k.0 k.3)) ∙ ap name_and_value (sym k.2) ∙ f.2 in
      let names : k.0 ≡ n = ap (λ (p : Text × Option Text). p.0) both in
      let somes : Some k.1 ≡ Some v = ap (λ (p : Text × Option Text). p.1) both in
      let values : k.1 ≡ v = cc in
      f.1 ∙ ap dashed (k.2 ∙ ap (λ a. a ++ 61 ∷ k.1) names ∙ ap (λ b. n ++ 61 ∷ b) values)
  go false e =
      let both : (f.0, None) ≡ (n, Some v) = sym (name_and_value-without f.0 (lacks_of 61 f.0 e)) ∙ f.2 in
      let no : None ≡ Some v = ap (λ (p : Text × Option Text). p.1) both in
      absurd cc

-- ---- the long form of a word

of_rest : (r : List ℕ) → r ≢ [] → long_of (dashed r) ≡ Some (name_and_value r)
of_rest [] some = absurd (some refl)
of_rest (x ∷ xs) some = refl

pub long_apart : (n : List ℕ) → n ≢ [] → list_any (λ x. x == 61) n ≡ false → long_of (dashed n) ≡ Some (n, None)
long_apart n some lacks = of_rest n some ∙ ap (λ p. Some p) (name_and_value-without n (lacks_of 61 n lacks))

pub not_nil : (n v : List ℕ) → n ++ 61 ∷ v ≢ []
not_nil [] v is = absurd cc
not_nil (x ∷ n) v is = absurd cc

pub long_joined : (n v : List ℕ) → list_any (λ x. x == 61) n ≡ false → long_of (dashed (n ++ 61 ∷ v)) ≡ Some (n, Some v)
long_joined n v lacks = of_rest (n ++ 61 ∷ v) (not_nil n v) ∙ ap (λ p. Some p) (name_and_value-at n v (lacks_of 61 n lacks))

-- ---- a word that does not begin with a dash

pub long_plain : (w : List ℕ) → IsPlain w → long_of w ≡ None
long_plain [] h = refl
long_plain (x ∷ xs) h = rw h refl

pub short_plain : (w : List ℕ) → IsPlain w → short_of w ≡ None
short_plain [] h = refl
short_plain (x ∷ xs) h = rw h refl

pub not_dashes : (w : List ℕ) → IsPlain w → bytes_eq w (45 ∷ 45 ∷ []) ≡ false
not_dashes [] h = refl
not_dashes (x ∷ xs) h = eq_not (x ∷ xs) (45 ∷ 45 ∷ []) (λ is. let first : x ≡ 45 = cc in let same : (x == 45) ≡ true = grind (arith, nat_tests) in bool_no (x == 45) same h)

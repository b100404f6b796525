-- A list of calls, each with the number of the pass that made it.
use Rattle.std.specs.Prelude.{◌≡◌, ◌⊎◌, ℕ, ◌+◌, ◌==◌, List, [], ◌∷◌, map, filter}
use mathlib.Core.Option.{some}
use lib.ListN.{get_elem?}

module _ {A : Type 0} where
  -- f of each, added up
  abbrev pub total : (A → ℕ) → List A → ℕ
  total f [] = 0
  total f (x ∷ xs) = f x + total f xs

  -- the calls, without the numbers of their passes
  abbrev pub events : List (ℕ × A) → List A
  events log = map (λ x. x.1) log

  -- the calls of the pass k, in their order
  abbrev pub calls_by : ℕ → List (ℕ × A) → List A
  calls_by k log = events (filter (λ x. k == x.0) log)

  -- the longer of two lists, of which one begins the other
  abbrev pub longer : List A → List A → List A
  longer [] ys = ys
  longer (x ∷ xs) [] = x ∷ xs
  longer (x ∷ xs) (y ∷ ys) = y ∷ longer xs ys

  -- the list has the calls of these passes: each has its own calls, in their order, each once, no number stands twice, and no other pass has any call
  pub record AreOf (joined : List (ℕ × List A)) (log : List (ℕ × A)) : Type 0 where
    pub own : (j k : ℕ) (calls : List A) → get_elem? joined j ≡ some (k, calls) → calls_by k log ≡ calls
    pub apart : (i j k : ℕ) (a b : List A) → get_elem? joined i ≡ some (k, a) → get_elem? joined j ≡ some (k, b) → i ≡ j
    pub no_others : (k : ℕ) → (calls_by k log ≡ []) ⊎ ((j : ℕ) × (get_elem? joined j ≡ some (k, calls_by k log)))

-- Laws on the list of all calls, by the calls of each pass.
use Rattle.std.specs.Prelude.{◌≡◌, ℕ, ◌≤◌, Bool, true, false, List, [], ◌∷◌, ◌++◌, filter, length, MatchBool}
use mathlib.Core.Option.{some}
use lib.ListN.{get_elem?}
use Rattle.dur_turn.specs.Calls.{total, events, calls_by, AreOf}

-- each entry of the list stands among the calls of its pass
abbrev pub EntriesAreOwn : Type 0 → Type 0
EntriesAreOwn E = (joined : List (ℕ × List E)) (log : List (ℕ × E)) → AreOf joined log
    → (i k : ℕ) (e : E) → get_elem? log i ≡ some (k, e)
    → (j : ℕ) × (calls : List E) × (place : ℕ) × (get_elem? joined j ≡ some (k, calls)) × (get_elem? calls place ≡ some e)

-- whatever each call weighs, the list weighs what the calls of its passes weigh together
abbrev pub SumsAreByPass : Type 0 → Type 0
SumsAreByPass E = (weight : E → ℕ) (joined : List (ℕ × List E)) (log : List (ℕ × E)) → AreOf joined log
    → total weight (events log) ≡ total (λ (pass : ℕ × List E). total weight pass.1) joined

module _ {E : Type 0} where
  -- the last of these calls is a leave, and no other
  pub record LeavesLast (leaves : E → Bool) (calls : List E) : Type 0 where
    pub before : List E
    pub last : E
    pub are : calls ≡ before ++ last ∷ []
    pub leave : leaves last ≡ true
    pub no_other : filter leaves before ≡ []

  -- each pass that works leaves with its last call, and the others never leave
  abbrev pub EachLeaves : (E → Bool) → (ℕ → Bool) → List (ℕ × List E) → Type 0
  EachLeaves leaves works joined =
      (j k : ℕ) (calls : List E) → get_elem? joined j ≡ some (k, calls) → MatchBool (works k) (LeavesLast leaves calls) (filter leaves calls ≡ [])

-- nobody works any more: as many leaves stand here as passes work
module _ {E : Type 0} where
  abbrev pub NobodyWorks : (E → Bool) → (ℕ → Bool) → List (ℕ × List E) → List (ℕ × E) → Type 0
  NobodyWorks leaves works joined before = length (filter (λ (pass : ℕ × List E). works pass.0) joined) ≤ length (filter leaves (events before))

-- The passes that work leave with their last call each. From a place on before which nobody works any more, no pass that works makes a call
abbrev pub NobodyBehind : Type 0 → Type 0
NobodyBehind E = (leaves : E → Bool) (works : ℕ → Bool) (joined : List (ℕ × List E)) (before after : List (ℕ × E))
    → AreOf joined (before ++ after) → EachLeaves leaves works joined → NobodyWorks leaves works joined before
    → (i k : ℕ) (e : E) → get_elem? after i ≡ some (k, e) → works k ≡ false

-- The same by passes: all calls of a pass that works, its leave among them, stand before that place
abbrev pub AllBefore : Type 0 → Type 0
AllBefore E = (leaves : E → Bool) (works : ℕ → Bool) (joined : List (ℕ × List E)) (before after : List (ℕ × E))
    → AreOf joined (before ++ after) → EachLeaves leaves works joined → NobodyWorks leaves works joined before
    → (j k : ℕ) (calls : List E) → get_elem? joined j ≡ some (k, calls) → works k ≡ true → calls_by k before ≡ calls

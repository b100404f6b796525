-- The rule of the table: what its words, its slot and all seats say of one list of calls.
use Rattle.std.specs.Prelude.{◌≡◌, ◌≢◌, ◌⊎◌, ℕ, ◌+◌, ◌%◌, ◌^◌, ◌<◌, ◌≤◌, Bool, List, [], ◌∷◌, filter, Some}
use mathlib.Core.Option.{some, none}
use mathlib.Core.Option as maybe
use mathlib.Core.List.{IsPrefix}
use lib.ListN.{get_elem?}
use Rattle.atomic_table.specs.Table.{State, Me}
use Rattle.dur_turn.specs.Calls.{total, events, calls_by}
use Rattle.dur_turn.specs.declared.known.Role.{Role}
use Rattle.dur_turn.specs.declared.known.Role.TheVariants.{Spent, Root, Idle, Waits, Holds}
use Rattle.dur_turn.specs.declared.known.Known.{Known}

-- 1 for a pass that is out
abbrev pub live : Role → ℕ
live Spent = 0
live Root = 0
live Idle = 1
live (Waits t) = 1
live (Holds t) = 1

-- 1 for a pass with a ticket
abbrev pub waits : Role → ℕ
waits Spent = 0
waits Root = 0
waits Idle = 0
waits (Waits t) = 1
waits (Holds t) = 1

-- the ticket of a pass that has one
abbrev pub ticket : Role → maybe.Option ℕ
ticket Spent = none
ticket Root = none
ticket Idle = none
ticket (Waits t) = some t
ticket (Holds t) = some t

-- a seat at the table: what it knows, and what it holds
abbrev pub Sat : Type 0 → Type 0 → Type 0
Sat V E = Me V (Known V E)

module _ {V E : Type 0} where
  -- what one seat knows is so
  pub record Knows (start : V) (log : List (ℕ × E)) (now next out made root : ℕ) (joined : List (ℕ × List E)) (homes : List (maybe.Option V)) (i : ℕ) (v : Known V E) : Type 0 where
    -- it knows the value at the opening
    pub begun : v.role ≢ Spent → v.start ≡ Some start
    -- what it has seen begins the list
    pub seen : IsPrefix v.seen (events log)
    -- a pass that is out knows its own calls
    pub mine : live v.role ≡ 1 → (v.number < made) × (calls_by v.number log ≡ v.mine)
    -- the root knows how many passes were split, how many are out, and which were joined
    pub roots : v.role ≡ Root → (i ≡ root) × (v.out ≡ out) × (v.number ≡ made) × (v.joined ≡ joined)
    -- a ticket that is out lies between the one that is served and the next
    pub queued : (t : ℕ) → ticket v.role ≡ some t → (now ≤ t) × (t < next)
    -- what joined passes had seen begins the list
    pub heard : (j : ℕ) (l : List E) → get_elem? v.heard j ≡ some l → IsPrefix l (events log)
    -- who holds the value is served, and has seen the whole list
    pub holds : (t : ℕ) → v.role ≡ Holds t → (t ≡ now) × (homes ≡ none ∷ []) × (v.seen ≡ events log)

  -- There is one list of calls. The value at home stands for it, or a seat holds the value and has seen the whole list.
  -- The words are the next ticket and the one that is served
  pub record Kept (stands : V → List E → V → Type 0) (is_lone : E → Bool) (start : V) (s : State V (Known V E)) : Type 0 where
    -- each call with the number of its pass
    pub log : List (ℕ × E)
    -- the ticket that is served, the next ticket, and how many passes are out and were split
    pub now : ℕ
    pub next : ℕ
    pub out : ℕ
    pub made : ℕ
    -- the seat of the root, and the passes that were joined, each with its number and calls
    pub root : ℕ
    pub joined : List (ℕ × List E)
    pub words : s.words ≡ next % 2 ^ 64 ∷ now % 2 ^ 64 ∷ []
    -- each ticket from the served one on is out with one pass
    pub queue : next ≡ now + total (λ v. waits v.role) s.views
    -- fewer than 2 ^ 32 passes are out, so tickets that are out differ modulo 2 ^ 64
    pub passes : total (λ v. live v.role) s.views ≡ out
    pub few : out < 2 ^ 32
    -- the value is at home and stands for the list, or the pass that is served holds it
    pub slot : ((y : V) × (s.homes ≡ some y ∷ []) × stands start (events log) y)
        ⊎ ((s.homes ≡ none ∷ []) × ((i : ℕ) × (v : Known V E) × (get_elem? s.views i ≡ some v) × (v.role ≡ Holds now)))
    -- the lone calls are those of the first pass
    pub lones : filter is_lone (events log) ≡ filter is_lone (calls_by 0 log)
    pub each : (i : ℕ) (v : Known V E) → get_elem? s.views i ≡ some v → Knows start log now next out made root joined s.homes i v
    -- two seats with one ticket are one seat
    pub apart : (i j : ℕ) (v w : Known V E) (t : ℕ) → get_elem? s.views i ≡ some v → get_elem? s.views j ≡ some w → ticket v.role ≡ some t → ticket w.role ≡ some t → i ≡ j
    -- two passes that are out have two numbers
    pub numbers : (i j : ℕ) (v w : Known V E) → get_elem? s.views i ≡ some v → get_elem? s.views j ≡ some w → live v.role ≡ 1 → live w.role ≡ 1 → v.number ≡ w.number → i ≡ j
    -- no number was joined twice
    pub once : (i j k : ℕ) (a b : List E) → get_elem? joined i ≡ some (k, a) → get_elem? joined j ≡ some (k, b) → i ≡ j
    -- a joined pass has its calls in the list, and none that is out has its number
    pub joins : (j k : ℕ) (calls : List E) → get_elem? joined j ≡ some (k, calls)
        → (k < made) × (calls_by k log ≡ calls) × ((i : ℕ) (v : Known V E) → get_elem? s.views i ≡ some v → live v.role ≡ 1 → v.number ≢ k)
    -- each pass that was split is out or was joined
    pub all : (k : ℕ) → k < made
        → ((i : ℕ) × (v : Known V E) × (get_elem? s.views i ≡ some v) × (live v.role ≡ 1) × (v.number ≡ k)) ⊎ ((j : ℕ) × (get_elem? joined j ≡ some (k, calls_by k log)))
    -- who was not split yet has no call
    pub later : (k : ℕ) → made ≤ k → calls_by k log ≡ []

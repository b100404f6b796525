-- What contracts see of a turn, of its root and of its passes, and what the calls on them do.
use Rattle.std.specs.Prelude.{◌≡◌, ℕ, ◌+◌, ◌-◌, Bool, List, [], ◌∷◌, ◌++◌, filter, Option, Some}
use mathlib.Core.Option.{some}
use mathlib.Core.List.{IsPrefix}
use lib.ListN.{get_elem?}
use Rattle.atomic_table.specs.Seated.{TableId}
use Rattle.dur_turn.specs.Calls.{events, calls_by, longer, AreOf}
use Rattle.dur_turn.specs.declared.known.Known.{Known}

-- a turn: which it is, and the value that it was opened with
pub record TurnState (V : Type 0) : Type 0 where
  pub table : TableId
  pub start : V

-- a pass: of which turn it is, its number in the order of the splits, the calls that it has seen, and the calls that it made
pub record PassState (V E : Type 0) : Type 0 where
  pub table : TableId
  pub start : Option V
  pub number : ℕ
  pub seen : List E
  pub mine : List E

-- the root: of which turn it is, how many passes were split, how many of them are out, the calls that it has seen,
-- the number and the calls of each pass that was joined, and what each of them had seen
pub record RootState (V E : Type 0) : Type 0 where
  pub table : TableId
  pub start : Option V
  pub made : ℕ
  pub out : ℕ
  pub seen : List E
  pub joined : List (ℕ × List E)
  pub heard : List (List E)

module _ {V E : Type 0} where
  abbrev pub pass_state : TableId → Known V E → PassState V E
  pass_state table v = record { table = table; start = v.start; number = v.number; seen = v.seen; mine = v.mine }

  abbrev pub root_state : TableId → Known V E → RootState V E
  root_state table v = record { table = table; start = v.start; made = v.number; out = v.out; seen = v.seen; joined = v.joined; heard = v.heard }

  -- a pass of this turn
  abbrev pub IsPassOf : TurnState V → PassState V E → Type 0
  IsPassOf turn pass = (pass.table ≡ turn.table) × (pass.start ≡ Some turn.start)

  -- the root of this turn
  abbrev pub IsRootOf : TurnState V → RootState V E → Type 0
  IsRootOf turn root = (root.table ≡ turn.table) × (root.start ≡ Some turn.start)

  -- the first pass that is split is the lone one
  abbrev pub IsLonePass : PassState V E → Type 0
  IsLonePass pass = pass.number ≡ 0

  -- the root at the opening: it has seen the list of the opening value alone
  abbrev pub opened_root : TurnState V → RootState V E
  opened_root turn = record { table = turn.table; start = Some turn.start; made = 0; out = 0; seen = []; joined = []; heard = [] }

  -- the root after one more pass was split
  abbrev pub root_after_split : RootState V E → RootState V E
  root_after_split root = record { table = root.table; start = root.start; made = root.made + 1; out = root.out + 1; seen = root.seen; joined = root.joined; heard = root.heard }

  -- that pass: it has seen what the root has seen, and has made no call
  abbrev pub new_pass : RootState V E → PassState V E
  new_pass root = record { table = root.table; start = root.start; number = root.made; seen = root.seen; mine = [] }

  -- the root after a pass was joined: it has the longer of the two lists that were seen
  abbrev pub root_after_join : RootState V E → PassState V E → RootState V E
  root_after_join root pass =
      record { table = root.table; start = root.start; made = root.made; out = root.out - 1; seen = longer root.seen pass.seen; joined = root.joined ++ (pass.number, pass.mine) ∷ []; heard = root.heard ++ pass.seen ∷ [] }

  -- what a pass may find when its turn comes. Some value stands for the list of the calls so far. The list begins with all that the pass has seen.
  -- Before the lone pass the lone calls of the list are those that it made itself, in their order
  pub record MayFind (stands : V → List E → V → Type 0) (is_lone : E → Bool) (start : V) (pass : PassState V E) (log : List E) : Type 0 where
    pub value : V
    pub stood : stands start log value
    pub begins : IsPrefix pass.seen log
    pub lones : IsLonePass pass → filter is_lone log ≡ filter is_lone pass.mine

  -- what a call did. It found a list of calls, and put one event behind it, of which the call tells. Some value stands for the list with the event.
  -- The pass has now seen that list, and its own calls are those of before and this one
  pub record Did (stands : V → List E → V → Type 0) (is_lone : E → Bool) (tells : E → Type 0) (start : V) (before after : PassState V E) : Type 0 where
    pub log : List E
    pub event : E
    pub value : V
    pub found : MayFind stands is_lone start before log
    pub told : tells event
    pub stood : stands start (log ++ event ∷ []) value
    pub seen : after.seen ≡ log ++ event ∷ []
    pub mine : after.mine ≡ before.mine ++ event ∷ []
    pub number : after.number ≡ before.number

  -- a value at the end stands for one list of calls. It begins with all that the root had seen, and with all that each joined pass had seen.
  -- Its lone calls are those of the lone pass, in their order. It has the calls of the joined passes, and no others
  pub record Settled (stands : V → List E → V → Type 0) (is_lone : E → Bool) (start : V) (root : RootState V E) (value : V) : Type 0 where
    pub log : List (ℕ × E)
    pub stood : stands start (events log) value
    pub begins : IsPrefix root.seen (events log)
    pub heard : (j : ℕ) (seen : List E) → get_elem? root.heard j ≡ some seen → IsPrefix seen (events log)
    pub lones : filter is_lone (events log) ≡ filter is_lone (calls_by 0 log)
    pub calls : AreOf root.joined log

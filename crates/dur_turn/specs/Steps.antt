-- What each step on the table tells its caller.
use Rattle.std.specs.Prelude.{◌≡◌, ◌≢◌, ℕ, ◌+◌, ◌-◌, ◌%◌, ◌^◌, Bool, List, [], ◌∷◌, ◌++◌, filter, Some, None}
use mathlib.Core.List.{IsPrefix}
use Rattle.atomic_table.specs.Table.{Step}
use Rattle.dur_turn.specs.Calls.{longer}
use Rattle.dur_turn.specs.Rule.{Sat}
use Rattle.dur_turn.specs.declared.known.Role.{Role}
use Rattle.dur_turn.specs.declared.known.Role.TheVariants.{Spent, Root, Idle, Waits, Holds}
use Rattle.dur_turn.specs.declared.known.Known.{Known}

module _ {V E : Type 0} where
  -- a seat that was joined knows nothing any more
  abbrev pub spent : Known V E
  spent = record { role = Spent; start = None; number = 0; out = 0; seen = []; mine = []; joined = []; heard = [] }

  -- the root at the opening
  abbrev pub first_root : V → Known V E
  first_root start = record { role = Root; start = Some start; number = 0; out = 0; seen = []; mine = []; joined = []; heard = [] }

  -- the pass in this role, which has seen these calls
  abbrev pub posed : Known V E → Role → List E → Known V E
  posed v role seen = record { role = role; start = v.start; number = v.number; out = v.out; seen = seen; mine = v.mine; joined = v.joined; heard = v.heard }

  -- a ticket was drawn
  abbrev pub drew : Step V → Sat V E → ℕ → Sat V E → Type 0
  drew st m n m' = (t : ℕ) × (m' ≡ (posed m.0 (Waits t) m.0.seen, m.1)) × (t % 2 ^ 64 ≡ n)

  -- the seat has the slot, with a value that stands for all calls so far. They begin with all that it had seen, and of the lone pass they have its own lone calls
  abbrev pub Took : (V → List E → V → Type 0) → (E → Bool) → Sat V E → Sat V E → Type 0
  Took stands is_lone m m' = (t : ℕ) × (log : List E) × (y : V) × (m' ≡ (posed m.0 (Holds t) log, (0, y) ∷ m.1)) × IsPrefix m.0.seen log
      × ((start : V) → m.0.start ≡ Some start → stands start log y) × (m.0.number ≡ 0 → filter is_lone log ≡ filter is_lone m.0.mine)

  -- it is the caller's turn, or nothing has changed
  abbrev pub looked : (V → List E → V → Type 0) → (E → Bool) → Step V → Sat V E → ℕ → Sat V E → Type 0
  looked stands is_lone st m n m' = (t : ℕ) → m.0.role ≡ Waits t → (n ≡ t % 2 ^ 64 → Took stands is_lone m m') × (n ≢ t % 2 ^ 64 → m' ≡ m)

  -- the pass is idle again, with one call more
  abbrev pub done_with : Known V E → E → Known V E
  done_with v e = record { role = Idle; start = v.start; number = v.number; out = v.out; seen = v.seen ++ e ∷ []; mine = v.mine ++ e ∷ []; joined = v.joined; heard = v.heard }

  -- a call of which this is told stands behind all that was seen, and some value stands for that list
  abbrev pub served : (V → List E → V → Type 0) → (E → Type 0) → Step V → Sat V E → ℕ → Sat V E → Type 0
  served stands told st m n m' = (e : E) × told e × ((start : V) → m.0.start ≡ Some start → (y : V) × stands start (m.0.seen ++ e ∷ []) y) × (m' ≡ (done_with m.0 e, []))

  -- the root after one more pass was split
  abbrev pub split_root : Known V E → Known V E
  split_root v = record { role = v.role; start = v.start; number = v.number + 1; out = v.out + 1; seen = v.seen; mine = v.mine; joined = v.joined; heard = v.heard }

  -- that pass
  abbrev pub split_pass : Known V E → Known V E
  split_pass v = record { role = Idle; start = v.start; number = v.number; out = 0; seen = v.seen; mine = []; joined = []; heard = [] }

  -- the root after a pass was joined
  abbrev pub joined_root : Known V E → Known V E → Known V E
  joined_root v w = record { role = v.role; start = v.start; number = v.number; out = v.out - 1; seen = longer v.seen w.seen; mine = v.mine; joined = v.joined ++ (w.number, w.mine) ∷ []; heard = v.heard ++ w.seen ∷ [] }

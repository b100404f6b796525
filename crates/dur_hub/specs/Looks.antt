-- The lease step, line by line.
use Rattle.std.specs.Prelude.{◌≡◌, ℕ, zero, suc, ◌+◌, Bool, true, not, ◌&&◌, if◌then◌else◌, List, [], ◌∷◌, length}
use Rattle.dur_hub.specs.declared.ledger.Ledger.{Ledger}
use Rattle.dur_hub.specs.declared.left_behind.Leaver.{Leaver}
use Rattle.dur_hub.specs.declared.line.Line.{Line}
use Rattle.dur_hub.specs.Runs.{Writer, Run}
use Rattle.dur_hub.specs.Leases.{is_past, is_overdue, leavers, after_lease}
use Rattle.dur_hub.specs.LeftBehind.{AreLeaving, AreLost}
use Rattle.dur_hub.specs.Hubs.{StandsAt}

-- whether a line's writer is overdue
abbrev pub is_late : Line → ℕ → Bool
is_late line now = not line.lost && is_past line.lease line.heard now

-- how many of the first i writers are overdue
abbrev pub overdue_upto : ℕ → ℕ → List Writer → ℕ
overdue_upto now zero ws = 0
overdue_upto now (suc i) [] = 0
overdue_upto now (suc i) (w ∷ ws) =
    if is_overdue now w then overdue_upto now i ws + 1 else overdue_upto now i ws

-- the first i lines were looked at, and the overdue ones among them lost
pub record LookedAt (l : Ledger) (ls : List Line) (m i : ℕ) (l' : Ledger) (ls' : List Line) : Type 0 where
  pub count : ℕ
  pub holds : (r : Run) → StandsAt l ls r → r.moment ≡ m → r.begun ≡ true
      → (count ≡ overdue_upto m i r.writers) × StandsAt l' ls' (after_lease r count)

-- What a lease step does.
pub record Leases (l : Ledger) (ls : List Line) (m : ℕ) (done : Bool) (l' : Ledger) (ls' : List Line) : Type 0 where
  pub count : ℕ
  pub holds : (r : Run) → StandsAt l ls r → r.moment ≡ m → r.begun ≡ true
      → AreLost done count (length (leavers r)) × StandsAt l' ls' (after_lease r count)

-- The same for the step of any call: the first one, or a later one.
pub record StepsLease (l : Ledger) (ls : List Line) (leaving : List Leaver) (m : ℕ) (begun done : Bool) (l' : Ledger) (ls' : List Line) (leaving' : List Leaver) : Type 0 where
  pub count : ℕ
  pub holds : (r : Run) → StandsAt l ls r → r.moment ≡ m → r.begun ≡ begun → AreLeaving r leaving
      → AreLost done count (length (leavers r)) × StandsAt l' ls' (after_lease r count)
      × AreLeaving (after_lease r count) leaving'

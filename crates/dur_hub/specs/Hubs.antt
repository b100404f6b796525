-- The hub that stands for a legal list of calls.
use Rattle.std.specs.Prelude.{◌≡◌, ◌%◌, ◌^◌, true, List, [], ◌∷◌, ◌++◌}
use Rattle.dur_hub.specs.declared.event.Event.{Event}
use Rattle.dur_hub.specs.declared.hub.Hub.{Hub}
use Rattle.dur_hub.specs.declared.ledger.Ledger.{Ledger}
use Rattle.dur_hub.specs.declared.line.Line.{Line}
use Rattle.dur_view.specs.History.{start}
use Rattle.dur_hub.specs.Runs.{Run}
use Rattle.dur_hub.specs.Replays.{PlacesFit}
use Rattle.dur_hub.specs.LeftBehind.{AreLeaving}
use Rattle.dur_hub.specs.Legal.{Legal, run_after}
use Rattle.dur_hub.specs.Dues.{AreDue}
use Rattle.dur_hub.specs.Places.{guids_of, found, IsIndex}
use Rattle.dur_hub.specs.Lines.{LinesFit}
use Rattle.dur_hub.specs.Queues.{LedgerAt}
use Rattle.dur_hub.specs.GoodRuns.{IsGoodRun}

-- A ledger and lines stand at this place of a run.
pub record StandsAt (l : Ledger) (ls : List Line) (r : Run) : Type 0 where
  pub ledger : LedgerAt l r.history r.taken r.durable
  pub lines : LinesFit r.plan r.history r.durable ls r.writers
  pub good : IsGoodRun r

-- So does the hub.
pub record HubAt (hub : Hub) (r : Run) : Type 0 where
  pub at : StandsAt hub.ledger hub.lines.items r
  pub plan : hub.plan ≡ r.plan
  pub index : IsIndex (found hub.index) (guids_of r.writers)
  pub places : PlacesFit r.plan (start r.history).topics hub.places
  pub moment : hub.moment ≡ r.moment
  pub begun : hub.begun ≡ r.begun
  pub due : r.begun ≡ true → AreDue hub.due r.writers
  pub given : hub.given.items ≡ r.given
  pub leaving : AreLeaving r hub.leaving.items
  pub acks : hub.acks ≡ r.acks % 2 ^ 64
  pub refused : hub.refused ≡ r.refused % 2 ^ 64
  pub working : hub.working ≡ r.working
  pub stopped : hub.stopped ≡ r.stopped

-- The hub stands for a legal list of calls over a start.
pub record Stands (start : Run) (log : List Event) (hub : Hub) : Type 0 where
  pub legal : Legal start log
  pub at : HubAt hub (run_after start log)

-- What a call does: whatever the hub stood for, it stands for that and this event.
abbrev pub Adds : Hub → Event → Hub → Type 0
Adds old e new =
    (start : Run) (log : List Event) → Stands start log old → Stands start (log ++ e ∷ []) new

-- It stands for some list.
abbrev pub StandsForSome : Hub → Type 0
StandsForSome hub = (start : Run) × (log : List Event) × Stands start log hub

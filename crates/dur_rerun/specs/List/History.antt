-- What the records of a capture bring to a hub that has heard nothing.
use Rattle.std.specs.Prelude.{ℕ, List, []}
use Rattle.dur_capture.specs.declared.record.Record.{Record}
use Rattle.dur_capture.specs.Whole.{CaptureWithin}
use Rattle.dur_hub.specs.declared.event.Event.{Event}
use Rattle.dur_hub.specs.declared.hub.Hub.{Hub}
use Rattle.dur_hub.specs.Runs.{Run}
use Rattle.dur_hub.specs.Hubs.{Stands}
use Rattle.dur_rerun.specs.Admission.{BringAll}

-- the octets are records and no more, and the hub was called for each of them
pub record TakesWhole (own : List ℕ) (before : ℕ) (octets : List ℕ) (old new : Hub) : Type 0 where
  pub records : List Record
  pub capture : CaptureWithin before octets records
  pub calls : List Event
  pub brings : BringAll own records calls
  pub adds : (start : Run) → Stands start [] old → Stands start calls new

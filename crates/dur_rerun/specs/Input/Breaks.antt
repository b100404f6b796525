-- Where an input breaks off, and the status that says so.
use Rattle.std.specs.Prelude.{◌≡◌, ℕ, List, drop, true, Some, None}
use Rattle.std.specs.declared.option.Option.{Option}
use Rattle.dur_capture.specs.declared.fault.CapFault.{CapFault}
use Rattle.dur_capture.specs.declared.fault.CapFault.TheVariants as cap
use Rattle.dur_capture.specs.Whole.{BreaksAt}
use Rattle.dur_qos.specs.declared.plan.Plan.{Plan as PlanOf}
use Rattle.dur_qos.specs.declared.fault.PlanKind.{PlanKind}
use Rattle.dur_qos.specs.declared.fault.PlanKind.TheVariants as kind
use Rattle.dur_qos.specs.declared.fault.PlanFault.{PlanFault}
use Rattle.dur_qos.specs.Text.{PlanText, IsFault}
use Rattle.dur_rerun.specs.declared.status.Status.{Status}
use Rattle.dur_rerun.specs.declared.status.Status.TheVariants.{OutOfMemory, Input, ReadFault, Plan}

-- the place of a fault, which want of memory has not
abbrev pub place_at : CapFault → Option ℕ
place_at (cap.LongDatagram place) = Some place
place_at (cap.EndsInside place) = Some place
place_at (cap.TooLong place) = Some place
place_at cap.OutOfMemory = None

-- the status of a fault of the capture
abbrev pub capture_status : CapFault → Status
capture_status (cap.LongDatagram place) = Input place (cap.LongDatagram place)
capture_status (cap.EndsInside place) = Input place (cap.EndsInside place)
capture_status (cap.TooLong place) = Input place (cap.TooLong place)
capture_status cap.OutOfMemory = OutOfMemory

abbrev pub line_status : ℕ → PlanKind → Status
line_status line kind.OutOfMemory = OutOfMemory
line_status line kind.Word = Plan line kind.Word
line_status line kind.Number = Plan line kind.Number
line_status line kind.Twice = Plan line kind.Twice
line_status line kind.UnknownTopic = Plan line kind.UnknownTopic
line_status line kind.DepthAboveLimit = Plan line kind.DepthAboveLimit
line_status line kind.TooMany = Plan line kind.TooMany

-- the status of a fault of the plan
abbrev pub plan_status : PlanFault → Status
plan_status fault = line_status fault.line fault.kind

-- the text of the plan first breaks in this line, or the input ends in it
abbrev pub PlanBreaks : List ℕ → ℕ → PlanKind → Type 0
PlanBreaks input line k = let fault : PlanFault = record { line = line; kind = k } in IsFault input fault

-- behind the text of a plan the capture first breaks off with this fault
pub record CaptureBreaks (input : List ℕ) (fault : CapFault) : Type 0 where
  pub plan : PlanOf
  pub n : ℕ
  pub plan_is : PlanText input plan n
  pub breaks : BreaksAt n (drop n input) true fault

-- with this status no plan is read: the source failed, memory ran out, or a line has a fault
abbrev pub EndsPlan : Status → Type 0
EndsPlan ReadFault = Unit {0}
EndsPlan OutOfMemory = Unit {0}
EndsPlan (Plan line k) = k ≡ kind.OutOfMemory → ⊥
EndsPlan other = ⊥

-- and where the input is known, it is at fault
abbrev pub StopsPlan : List ℕ → Status → Type 0
StopsPlan input (Plan line k) = PlanBreaks input line k
StopsPlan input other = Unit {0}

-- with this status no record is read: the source failed, memory ran out, or the capture breaks off
abbrev pub EndsRecords : Status → Type 0
EndsRecords ReadFault = Unit {0}
EndsRecords OutOfMemory = Unit {0}
EndsRecords (Input place fault) = place_at fault ≡ Some place
EndsRecords other = ⊥

-- with this status no piece comes: the source failed, or memory ran out
abbrev pub EndsRefill : Status → Type 0
EndsRefill ReadFault = Unit {0}
EndsRefill OutOfMemory = Unit {0}
EndsRefill other = ⊥

-- where the status is that of a break, the octets first break off with its fault
abbrev pub StopsRest : ℕ → List ℕ → Status → Type 0
StopsRest before octets (Input place fault) = BreaksAt before octets true fault
StopsRest before octets other = Unit {0}

-- What the command `list` answers for an input.
use Rattle.std.specs.Prelude.{◌≡◌, ◌≢◌, ℕ, max, List, [], drop, Some}
use Rattle.dur_capture.specs.declared.record.Record.{Record}
use Rattle.dur_capture.specs.Whole.{CaptureWithin}
use Rattle.dur_qos.specs.declared.plan.Plan.{Plan as PlanOf}
use Rattle.dur_qos.specs.declared.fault.PlanKind.TheVariants as kind
use Rattle.dur_qos.specs.Text.{PlanText}
use Rattle.dur_view.specs.Full.{blank}
use Rattle.dur_hub.specs.Runs.{Run, opening}
use Rattle.dur_rerun.specs.declared.status.Status.{Status}
use Rattle.dur_rerun.specs.declared.status.Status.TheVariants.{Done, OutOfMemory, Input, ReadFault, WriteFault, Plan}
use Rattle.dur_rerun.specs.Admission.{Admits}
use Rattle.dur_rerun.specs.Input.Breaks.{place_at, PlanBreaks, CaptureBreaks}
use Rattle.dur_rerun.specs.Input.Prefix.{own_prefix}
use Rattle.dur_rerun.specs.Input.Records.{latest}
use Rattle.dur_rerun.specs.List.Listing.{list_text}

-- The input is the text of a plan and then a capture. Its records admit a history from the blank view of the plan, and the
-- text is what that entitles a late reader to in each topic, at the later of a moment and the greatest one of the records.
pub record Lists (at epoch : ℕ) (input text : List ℕ) : Type 0 where
  pub plan : PlanOf
  pub n : ℕ
  pub plan_is : PlanText input plan n
  pub records : List Record
  pub capture : CaptureWithin n (drop n input) records
  pub run : Run
  pub admits : Admits (opening plan (blank plan) 0) (own_prefix epoch plan) records run
  pub text_is : text ≡ list_text run (max at (latest records))

-- The text for the input; and none where the input breaks off before its end, for nothing is written before.
abbrev pub ListAnswers : ℕ → ℕ → List ℕ → List ℕ → Status → Type 0
ListAnswers at epoch input text Done = Lists at epoch input text
ListAnswers at epoch input text WriteFault = (text ≢ []) × Lists at epoch input text
ListAnswers at epoch input text (Input place fault) = (text ≡ []) × (place_at fault ≡ Some place) × CaptureBreaks input fault
ListAnswers at epoch input text (Plan line k) = (text ≡ []) × PlanBreaks input line k
ListAnswers at epoch input text ReadFault = text ≡ []
ListAnswers at epoch input text OutOfMemory = text ≡ []
ListAnswers at epoch input text other = ⊥

-- with this status the command ends
abbrev pub ListEnds : Status → Type 0
ListEnds Done = Unit {0}
ListEnds OutOfMemory = Unit {0}
ListEnds (Input place fault) = place_at fault ≡ Some place
ListEnds ReadFault = Unit {0}
ListEnds WriteFault = Unit {0}
ListEnds (Plan line k) = k ≡ kind.OutOfMemory → ⊥
ListEnds other = ⊥

-- and with one of these where nothing was written
abbrev pub EndsUnwritten : Status → Type 0
EndsUnwritten OutOfMemory = Unit {0}
EndsUnwritten (Input place fault) = place_at fault ≡ Some place
EndsUnwritten ReadFault = Unit {0}
EndsUnwritten (Plan line k) = k ≡ kind.OutOfMemory → ⊥
EndsUnwritten other = ⊥

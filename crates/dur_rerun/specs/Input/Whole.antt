-- An input that does not break off.
use Rattle.std.specs.Prelude.{ℕ, List, drop}
use Rattle.dur_capture.specs.declared.record.Record.{Record}
use Rattle.dur_capture.specs.Whole.{CaptureWithin}
use Rattle.dur_qos.specs.declared.plan.Plan.{Plan}
use Rattle.dur_qos.specs.Text.{PlanText}

-- it is the text of a plan and then a capture, and no more
pub record IsWholeInput (input : List ℕ) : Type 0 where
  pub plan : Plan
  pub n : ℕ
  pub plan_is : PlanText input plan n
  pub records : List Record
  pub capture : CaptureWithin n (drop n input) records

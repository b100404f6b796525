-- What the command `learn` answers for an input.
use Rattle.std.specs.Prelude.{◌≡◌, ◌≢◌, ℕ, max, List, [], drop, Some}
use Rattle.dur_capture.specs.declared.record.Record.{Record}
use Rattle.dur_capture.specs.Whole.{CaptureWithin}
use Rattle.dur_qos.specs.declared.plan.Plan.{Plan as PlanOf}
use Rattle.dur_qos.specs.declared.fault.PlanKind.TheVariants as kind
use Rattle.dur_qos.specs.Good.{GoodPlan}
use Rattle.dur_qos.specs.Text.{PlanText}
use Rattle.dur_qos.specs.Written.{plan_text}
use Rattle.rtps_discovery.specs.Learnt.{HeardFact, IsLearnt, PassesLimit}
use Rattle.dur_rerun.specs.declared.status.Status.{Status}
use Rattle.dur_rerun.specs.declared.status.Status.TheVariants.{Done, OutOfMemory, Input, ReadFault, WriteFault, Plan, TooMany}
use Rattle.dur_rerun.specs.Input.Breaks.{place_at, PlanBreaks, CaptureBreaks}
use Rattle.dur_rerun.specs.Input.Prefix.{own_prefix}
use Rattle.dur_rerun.specs.Input.Records.{latest}
use Rattle.dur_rerun.specs.Learn.Facts.{Tells}

-- The input is the text of a plan and then a capture, and this plan is learnt from what its records tell, at the later of
-- a moment and the greatest one of the records.
pub record Learns (at epoch : ℕ) (input : List ℕ) (learnt : PlanOf) : Type 0 where
  pub plan : PlanOf
  pub n : ℕ
  pub plan_is : PlanText input plan n
  pub records : List Record
  pub capture : CaptureWithin n (drop n input) records
  pub facts : List HeardFact
  pub tells : Tells (own_prefix epoch plan) 0 records facts
  pub learnt_is : IsLearnt plan facts (max at (latest records)) learnt

-- it passes no limit, and this is its text
pub record LearnsText (at epoch : ℕ) (input text : List ℕ) : Type 0 where
  pub learnt : PlanOf
  pub learns : Learns at epoch input learnt
  pub good : GoodPlan learnt
  pub text_is : text ≡ plan_text learnt

-- The text for the input; and none where the input breaks off before its end, or where the plan passes a limit.
abbrev pub LearnAnswers : ℕ → ℕ → List ℕ → List ℕ → Status → Type 0
LearnAnswers at epoch input text Done = LearnsText at epoch input text
LearnAnswers at epoch input text WriteFault = (text ≢ []) × LearnsText at epoch input text
LearnAnswers at epoch input text TooMany = (text ≡ []) × (learnt : PlanOf) × Learns at epoch input learnt × PassesLimit learnt
LearnAnswers at epoch input text (Input place fault) = (text ≡ []) × (place_at fault ≡ Some place) × CaptureBreaks input fault
LearnAnswers at epoch input text (Plan line k) = (text ≡ []) × PlanBreaks input line k
LearnAnswers at epoch input text ReadFault = text ≡ []
LearnAnswers at epoch input text OutOfMemory = text ≡ []
LearnAnswers at epoch input text other = ⊥

-- with this status nothing was written
abbrev pub EndsUnlearnt : Status → Type 0
EndsUnlearnt OutOfMemory = Unit {0}
EndsUnlearnt (Input place fault) = place_at fault ≡ Some place
EndsUnlearnt ReadFault = Unit {0}
EndsUnlearnt (Plan line k) = k ≡ kind.OutOfMemory → ⊥
EndsUnlearnt TooMany = Unit {0}
EndsUnlearnt other = ⊥

-- with this status the command ends
abbrev pub LearnEnds : Status → Type 0
LearnEnds Done = Unit {0}
LearnEnds WriteFault = Unit {0}
LearnEnds OutOfMemory = Unit {0}
LearnEnds (Input place fault) = place_at fault ≡ Some place
LearnEnds ReadFault = Unit {0}
LearnEnds (Plan line k) = k ≡ kind.OutOfMemory → ⊥
LearnEnds TooMany = Unit {0}
LearnEnds other = ⊥

-- What the command `show` answers for an input.
use Rattle.std.specs.Prelude.{◌≡◌, ◌⊎◌, ℕ, List, [], drop, Some}
use Rattle.dur_qos.specs.declared.plan.Plan.{Plan as PlanOf}
use Rattle.dur_qos.specs.declared.fault.PlanKind.TheVariants as kind
use Rattle.dur_qos.specs.Text.{PlanText}
use Rattle.dur_rerun.specs.declared.status.Status.{Status}
use Rattle.dur_rerun.specs.declared.status.Status.TheVariants.{Done, OutOfMemory, Input, ReadFault, WriteFault, Plan}
use Rattle.dur_rerun.specs.Input.Breaks.{place_at, PlanBreaks}
use Rattle.dur_rerun.specs.Input.Prefix.{own_prefix}
use Rattle.dur_rerun.specs.Show.Printing.{ShowsRest}

-- the input begins with the text of a plan, and this is the text for the octets behind it, and the status
pub record ShowsBehind (epoch : ℕ) (input text : List ℕ) (s : Status) : Type 0 where
  pub plan : PlanOf
  pub n : ℕ
  pub plan_is : PlanText input plan n
  pub rest : ShowsRest (own_prefix epoch plan) n (drop n input) text s

-- A line for each record of the capture behind the plan, up to its end or its first break; and none where the plan
-- breaks.
abbrev pub ShowAnswers : ℕ → List ℕ → List ℕ → Status → Type 0
ShowAnswers epoch input text (Plan line k) = (text ≡ []) × PlanBreaks input line k
ShowAnswers epoch input text ReadFault = (text ≡ []) ⊎ ShowsBehind epoch input text ReadFault
ShowAnswers epoch input text OutOfMemory = (text ≡ []) ⊎ ShowsBehind epoch input text OutOfMemory
ShowAnswers epoch input text other = ShowsBehind epoch input text other

-- with this status the command ends
abbrev pub ShowEnds : Status → Type 0
ShowEnds Done = Unit {0}
ShowEnds OutOfMemory = Unit {0}
ShowEnds (Input place fault) = place_at fault ≡ Some place
ShowEnds ReadFault = Unit {0}
ShowEnds WriteFault = Unit {0}
ShowEnds (Plan line k) = k ≡ kind.OutOfMemory → ⊥
ShowEnds other = ⊥

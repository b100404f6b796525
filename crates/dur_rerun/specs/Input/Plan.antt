-- The plan in front of a capture, and what came behind it.
use Rattle.std.specs.Prelude.{◌≡◌, ℕ, ◌≤◌, ◌^◌, ◌⊎◌, List, drop, false, Some, None}
use Rattle.dur_capture.specs.Feeding.{Feeding}
use Rattle.dur_qos.specs.declared.fault.PlanKind.TheVariants.{Word}
use Rattle.dur_qos.specs.declared.fault.PlanFault.{PlanFault}
use Rattle.dur_qos.specs.Reading.{Reading}
use Rattle.dur_qos.specs.Text.{PlanText}
use Rattle.dur_rerun.specs.declared.input.plan.Opened.{Opened}
use Rattle.dur_rerun.specs.declared.status.Status.{Status}
use Rattle.dur_rerun.specs.declared.status.Status.TheVariants.{OutOfMemory}
use Rattle.dur_rerun.specs.Input.Breaks.{plan_status}

-- a feed of these octets, of which none was handed out, behind so many octets of input
abbrev pub begun : ℕ → List ℕ → Feeding
begun before octets = record { before = before; taken = 0; left = octets; fault = None }

-- the octets seen are the text of a plan, and what follows it is left
pub record Opens (seen : List ℕ) (o : Opened) : Type 0 where
  pub n : ℕ
  pub plan_is : PlanText seen o.plan n
  pub feed_is : o.feed ≡ begun n (drop n seen)
  pub within : n ≤ 2 ^ 40

-- a reading of a plan was told this fault, or ends in the line that has begun
abbrev pub Ended : Reading → PlanFault → Type 0
Ended r e = (r.fault ≡ Some e) ⊎ ((r.fault ≡ None) × (r.ended ≡ false) × (e ≡ record { line = r.line; kind = Word }))

-- with this status a reading of a plan ends: want of memory, or that of its fault
abbrev pub EndsReading : Reading → Status → Type 0
EndsReading r s = (s ≡ OutOfMemory) ⊎ ((e : PlanFault) × Ended r e × (s ≡ plan_status e))

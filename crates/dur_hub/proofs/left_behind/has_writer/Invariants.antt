use Rattle.std.proofs.Common.{◌≡◌, drop}
use Rattle.dur_qos.specs.Plan.{has_writer}
use Rattle.dur_hub.proofs.left_behind.has_writer.Given as goal

-- whom it looks for is among the lines that are left
abbrev pub invariant-loop-line : goal.invariant-loop-line
invariant-loop-line l =
    has_writer l.guid l.plan.writers ≡ has_writer l.guid (drop l.line-index l.plan.writers)

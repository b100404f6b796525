use Rattle.std.proofs.Common.{◌≡◌, length}
use Rattle.dur_qos.specs.Plan.{has_writer}
use Rattle.rtps_discovery.proofs.lines.has_writer.Given as goal

abbrev pub invariant-loop-rest : goal.invariant-loop-rest
invariant-loop-rest l = has_writer l.guid l.rest ≡ has_writer l.guid l.writers

abbrev pub decreases-loop-rest : goal.decreases-loop-rest
decreases-loop-rest l = length l.rest

use Rattle.std.proofs.Common.{◌≡◌, length}
use Rattle.dur_qos.specs.Plan.{has_reader}
use Rattle.rtps_discovery.proofs.lines.has_reader.Given as goal

abbrev pub invariant-loop-rest : goal.invariant-loop-rest
invariant-loop-rest l = has_reader l.guid l.rest ≡ has_reader l.guid l.readers

abbrev pub decreases-loop-rest : goal.decreases-loop-rest
decreases-loop-rest l = length l.rest

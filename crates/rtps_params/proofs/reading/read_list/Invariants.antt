use Rattle.std.proofs.Common.{length}
use Rattle.rtps_params.proofs.Loop.{Progress}
use Rattle.rtps_params.proofs.reading.read_list.Given as goal

abbrev pub invariant-parameters : goal.invariant-parameters
invariant-parameters l = Progress l.little l.bytes l.inline l.rest

abbrev pub decreases-parameters : goal.decreases-parameters
decreases-parameters l = length l.rest

use Rattle.std.proofs.Common.{length}
use Rattle.rtps_discovery.specs.Fits.{FitsListed}
use Rattle.rtps_discovery.proofs.Loop.{Progress}
use Rattle.rtps_discovery.proofs.list.read_list.Given as goal

abbrev pub invariant-parameters : goal.invariant-parameters
invariant-parameters l =
    record { so : Progress l.topics l.little l.bytes l.listed l.rest; fits : FitsListed l.topics l.listed }

abbrev pub decreases-parameters : goal.decreases-parameters
decreases-parameters l = length l.rest

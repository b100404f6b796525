use Rattle.std.proofs.Common.{◌≡◌, ◌+◌, length}
use Rattle.dur_qos.specs.Plan.{place_from, place_of}
use Rattle.rtps_discovery.proofs.parameter.place_in.Given as goal

abbrev pub invariant-loop-rest : goal.invariant-loop-rest
invariant-loop-rest l = record { same : place_from l.place l.name l.rest ≡ place_of l.name l.topics; all : l.place + length l.rest ≡ length l.topics }

abbrev pub decreases-loop-rest : goal.decreases-loop-rest
decreases-loop-rest l = length l.rest

use Rattle.std.proofs.Common.{◌≡◌, ◌+◌, length}
use Rattle.rtps_frag.specs.Joining.{place_from}
use Rattle.rtps_frag.proofs.joiner.place_of.Given as goal

abbrev pub invariant-loop-rest : goal.invariant-loop-rest
invariant-loop-rest l = record { same : place_from l.k l.writer l.number l.rest ≡ place_from 0 l.writer l.number l.slots; all : l.k + length l.rest ≡ length l.slots }

abbrev pub decreases-loop-rest : goal.decreases-loop-rest
decreases-loop-rest l = length l.rest

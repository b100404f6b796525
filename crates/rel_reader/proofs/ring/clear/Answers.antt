use Rattle.std.proofs.Common.{arith}
use Rattle.rel_reader.proofs.RingPlaces.{cleared}
use Rattle.rel_reader.proofs.ring.clear.Goals as goal

pub returns-clause-comes : goal.returns-clause-comes
returns-clause-comes c = cleared _ _ _ _ _ _ (omega arith) c.loop-k.invariant.empty c.loop-k.invariant.rest c.requires.above

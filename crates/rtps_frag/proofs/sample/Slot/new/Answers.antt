use Rattle.std.proofs.Common.{arith}
use Rattle.rtps_frag.proofs.Pieces.{opened_so}
use Rattle.rtps_frag.proofs.sample.Slot.new.Goals as goal

pub invariant_of-result : goal.invariant_of-result
invariant_of-result c = opened_so 0 0 c.nothing.result _ _ (omega arith) c.nothing.ensures c.in_ok-new.ensures c.in_ok-with_capacity.ensures.items

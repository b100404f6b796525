use Rattle.std.proofs.Common.{rules}
use Rattle.dur_base.proofs.WordBits.{width_normal}
use Rattle.dur_base.proofs.bits.Bits.of.Goals as goal

pub invariant_of-result : goal.invariant_of-result
invariant_of-result c = rw c.width.ensures.value (width_normal _ (search rules) (search rules))

use Rattle.std.proofs.Common.{arith}
use Rattle.rtps_frag.proofs.Pieces.{opened_so, few}
use Rattle.rtps_frag.proofs.sample.Slot.open.Goals as goal

pub invariant_of-self-2 : goal.invariant_of-self-2
invariant_of-self-2 c = opened_so _ _ _ _ _ c.requires.small c.nothing-self-inside.ensures c.clear-2.ensures c.in_ok-fill_octets.ensures.ok

pub clear-requires-2 : goal.clear-requires-2
clear-requires-2 c = few _ _ (omega (arith, c.requires.fits.head.last)) c.requires.small

use Rattle.rtps_submsg.proofs.SetBits.{bit_read}
use Rattle.rtps_submsg.proofs.laws.bits_in_place.Goals as goal

pub returns : goal.returns
returns c = bit_read

use Rattle.rtps_frag.proofs.Words.{bits_in_place as in_place}
use Rattle.rtps_frag.proofs.laws.bits_in_place.Goals as goal

pub returns : goal.returns
returns c = in_place

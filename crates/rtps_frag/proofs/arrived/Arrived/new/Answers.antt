use Rattle.std.proofs.Common.{refl}
use Rattle.rtps_frag.specs.Marks.{marks_in}
use Rattle.rtps_frag.proofs.arrived.Arrived.new.Goals as goal

pub returns : goal.returns
unfolding marks_in
returns c = refl

use Rattle.rtps_message.proofs.Again.{markers_again}
use Rattle.rtps_message.proofs.laws.markers_read_again.Goals as goal

pub returns : goal.returns
returns c = markers_again

use Rattle.rtps_message.proofs.Again.{changes_again}
use Rattle.rtps_message.proofs.laws.changes_read_again.Goals as goal

pub returns : goal.returns
returns c = changes_again

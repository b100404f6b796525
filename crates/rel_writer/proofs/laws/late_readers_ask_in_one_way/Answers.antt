use Rattle.rel_writer.proofs.Asking.{one_nack}
use Rattle.rel_writer.proofs.laws.late_readers_ask_in_one_way.Goals as goal

pub returns : goal.returns
returns c = one_nack

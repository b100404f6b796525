use Rattle.rel_writer.proofs.HearsFacts.{one_way}
use Rattle.rel_writer.proofs.laws.late_readers_hear_in_one_way.Goals as goal

pub returns : goal.returns
returns c = λ l facts a b m n x y. one_way facts l a b m n x y

use Rattle.turn_uses.proofs.Orders.{nobody}
use Rattle.turn_uses.proofs.laws.nobody_behind.Goals as goal

pub returns : goal.returns
returns g c = nobody

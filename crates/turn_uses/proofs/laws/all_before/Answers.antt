use Rattle.turn_uses.proofs.Orders.{all_before}
use Rattle.turn_uses.proofs.laws.all_before.Goals as goal

pub returns : goal.returns
returns g c = all_before

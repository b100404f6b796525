use Rattle.turn_uses.proofs.Sums.{sums_by_pass}
use Rattle.turn_uses.proofs.laws.sums_are_by_pass.Goals as goal

pub returns : goal.returns
returns g c = sums_by_pass

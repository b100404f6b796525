use Rattle.turn_uses.proofs.Sums.{entries_own}
use Rattle.turn_uses.proofs.laws.entries_are_own.Goals as goal

pub returns : goal.returns
returns g c = entries_own

use Rattle.std.proofs.Common.{length}
use Rattle.dur_hub.proofs.Losing.{Losing}
use Rattle.dur_hub.proofs.left_behind.lose_left.Given as goal

abbrev pub invariant-loop-leaver : goal.invariant-loop-leaver
invariant-loop-leaver l = Losing l.fn.ledger l.fn.leaving.items l.moment l.ledger l.leaving.items

abbrev pub decreases-loop-leaver : goal.decreases-loop-leaver
decreases-loop-leaver l = length l.leaving.items

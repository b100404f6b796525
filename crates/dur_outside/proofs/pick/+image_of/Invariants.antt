use Rattle.std.proofs.Common.{length}
use Rattle.dur_outside.proofs.pick.+image_of.Given as goal

abbrev pub decreases-image_of : goal.decreases-image_of
decreases-image_of l = length l.changes.now

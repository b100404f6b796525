use Rattle.std.proofs.Common.{length}
use Rattle.dur_base.proofs.bits.+width.Given as goal

abbrev pub decreases-width : goal.decreases-width
decreases-width l = length l.words.now

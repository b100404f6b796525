use Rattle.std.proofs.Common.{take}
use Rattle.dur_rerun.specs.Rerun.Opening.{AreNumbered}
use Rattle.dur_rerun.proofs.rerun.opening.see_numbers.Given as goal

-- of those that were looked at
abbrev pub invariant-loop-writer : goal.invariant-loop-writer
invariant-loop-writer l = AreNumbered (take l.writer-index l.writers)

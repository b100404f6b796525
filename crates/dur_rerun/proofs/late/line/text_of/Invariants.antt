use Rattle.std.proofs.Common.{◌≡◌, ◌++◌, length}
use Rattle.dur_rerun.specs.Late.Line.{lines}
use Rattle.dur_rerun.proofs.late.line.text_of.Given as goal

abbrev pub invariant-loop-rest : goal.invariant-loop-rest
invariant-loop-rest l = l.out.items ++ lines l.rest ≡ lines l.changes

abbrev pub decreases-loop-rest : goal.decreases-loop-rest
decreases-loop-rest l = length l.rest

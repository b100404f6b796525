use Rattle.rel_writer.proofs.Marks.{Marking}
use Rattle.rel_writer.proofs.members.mark_all.Given as goal

abbrev pub invariant-loop-at : goal.invariant-loop-at
invariant-loop-at l = Marking l.fn.changes l.changes l.at l.last

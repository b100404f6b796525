use Rattle.std.proofs.Common.{◌≡◌, ◌++◌, length}
use Rattle.dur_rerun.specs.List.Line.{topic_text}
use Rattle.dur_rerun.proofs.list.line.append_topic.Given as goal

abbrev pub invariant-loop-rest : goal.invariant-loop-rest
invariant-loop-rest l = l.out.items ++ topic_text l.topic l.rest ≡ l.fn.out.items ++ topic_text l.topic l.changes

abbrev pub decreases-loop-rest : goal.decreases-loop-rest
decreases-loop-rest l = length l.rest

use Rattle.std.proofs.Common.{◌≡◌, ◌++◌, length}
use Rattle.dur_qos.specs.Written.{topics_text}
use Rattle.dur_qos.proofs.writing.put_topics.Given as goal

abbrev pub invariant-loop-rest : goal.invariant-loop-rest
invariant-loop-rest l = (l.fn.out ++ topics_text l.topics ≡ l.out ++ topics_text l.rest)

abbrev pub decreases-loop-rest : goal.decreases-loop-rest
decreases-loop-rest l = length l.rest

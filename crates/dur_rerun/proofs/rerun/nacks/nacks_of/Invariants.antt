use Rattle.std.proofs.Common.{◌≡◌, ◌++◌, length}
use Rattle.dur_rerun.specs.Rerun.Replies.{nacks}
use Rattle.dur_rerun.proofs.rerun.nacks.nacks_of.Given as goal

abbrev pub invariant-loop-rest : goal.invariant-loop-rest
invariant-loop-rest l = nacks l.facts ≡ l.some.items ++ nacks l.rest

abbrev pub decreases-loop-rest : goal.decreases-loop-rest
decreases-loop-rest l = length l.rest

use Rattle.std.proofs.Common.{length}
use Rattle.rtps_discovery.specs.declared.directory.Directory.{Directory}
use Rattle.dur_rerun.specs.Learn.Facts.{heard_at, HearsMore}
use Rattle.dur_rerun.proofs.learn.facts.hear_facts.Given as goal

-- what hears the facts that are left heard all of them
abbrev pub invariant-loop-rest : goal.invariant-loop-rest
invariant-loop-rest l = (new : Directory) → HearsMore l.plan l.directory (heard_at l.moment l.rest) new → HearsMore l.plan l.fn.directory (heard_at l.moment l.facts) new

abbrev pub decreases-loop-rest : goal.decreases-loop-rest
decreases-loop-rest l = length l.rest

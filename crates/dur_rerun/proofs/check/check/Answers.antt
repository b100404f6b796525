use Rattle.dur_rerun.proofs.Checks.{completes}
use Rattle.dur_rerun.proofs.check.check.Goals as goal

pub returns-clause-complete : goal.returns-clause-complete
returns-clause-complete g c told = rw c.status_of.ensures (completes _ _ _ _ _ _ _ (c.run-ended.ensures.out told).answers c.run-ended.ensures.reason)

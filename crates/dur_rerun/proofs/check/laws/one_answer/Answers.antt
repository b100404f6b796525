use Rattle.dur_rerun.proofs.Checks.{check_once}
use Rattle.dur_rerun.proofs.check.laws.one_answer.Goals as goal

pub returns : goal.returns
returns c = check_once

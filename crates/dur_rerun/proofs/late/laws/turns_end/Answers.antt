use Rattle.dur_rerun.proofs.TurnLaws.{ends_before}
use Rattle.dur_rerun.proofs.late.laws.turns_end.Goals as goal

pub returns : goal.returns
returns c = ends_before

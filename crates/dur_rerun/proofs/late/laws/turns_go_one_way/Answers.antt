use Rattle.dur_rerun.proofs.TurnLaws.{go_one_way}
use Rattle.dur_rerun.proofs.late.laws.turns_go_one_way.Goals as goal

pub returns : goal.returns
returns c = go_one_way

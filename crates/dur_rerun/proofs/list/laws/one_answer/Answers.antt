use Rattle.dur_rerun.proofs.OneList.{list_function}
use Rattle.dur_rerun.proofs.list.laws.one_answer.Goals as goal

pub returns : goal.returns
returns c = list_function

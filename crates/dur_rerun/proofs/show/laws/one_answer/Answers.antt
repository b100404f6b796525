use Rattle.dur_rerun.proofs.OneShow.{show_function}
use Rattle.dur_rerun.proofs.show.laws.one_answer.Goals as goal

pub returns : goal.returns
returns c = show_function

use Rattle.dur_rerun.proofs.OneLearn.{learn_function}
use Rattle.dur_rerun.proofs.learn.laws.one_answer.Goals as goal

pub returns : goal.returns
returns c = learn_function

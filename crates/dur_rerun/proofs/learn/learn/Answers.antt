use Rattle.dur_rerun.specs.Learn.Answer.{LearnAnswers, LearnEnds}
use Rattle.dur_rerun.proofs.Commands.{arrives}
use Rattle.dur_rerun.proofs.OneLearn.{learn_function}
use Rattle.dur_rerun.proofs.learn.learn.Goals as goal

pub returns-clause-arrives : goal.returns-clause-arrives
returns-clause-arrives g c = rw c.status_of.ensures (arrives (LearnAnswers c.args.at c.args.epoch) (learn_function c.args.at c.args.epoch) LearnEnds _ _ _ _ _ _ _ _ _ _ c.run-ended.ensures.reason c.run-ended.ensures.out)

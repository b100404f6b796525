use Rattle.dur_rerun.specs.Show.Answer.{ShowAnswers, ShowEnds}
use Rattle.dur_rerun.proofs.Commands.{arrives}
use Rattle.dur_rerun.proofs.OneShow.{show_function}
use Rattle.dur_rerun.proofs.show.show.Goals as goal

pub returns-clause-arrives : goal.returns-clause-arrives
returns-clause-arrives g c = rw c.status_of.ensures (arrives (ShowAnswers c.args.epoch) (show_function c.args.epoch) ShowEnds _ _ _ _ _ _ _ _ _ _ c.run-ended.ensures.reason c.run-ended.ensures.out)

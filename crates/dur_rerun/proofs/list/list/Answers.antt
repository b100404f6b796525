use Rattle.dur_rerun.specs.List.Answer.{ListAnswers, ListEnds}
use Rattle.dur_rerun.proofs.Commands.{arrives}
use Rattle.dur_rerun.proofs.OneList.{list_function}
use Rattle.dur_rerun.proofs.list.list.Goals as goal

pub returns-clause-arrives : goal.returns-clause-arrives
returns-clause-arrives g c = rw c.status_of.ensures (arrives (ListAnswers c.args.at c.args.epoch) (list_function c.args.at c.args.epoch) ListEnds _ _ _ _ _ _ _ _ _ _ c.run-ended.ensures.reason c.run-ended.ensures.out)

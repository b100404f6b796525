use Rattle.dur_rerun.proofs.Cuts.{cut_view, cut_next, cut_opened}
use Rattle.dur_rerun.proofs.rerun.laws.kept_histories_stand_for_whole_ones.Goals as goal

pub returns-clause-view : goal.returns-clause-view
returns-clause-view c = cut_view

pub returns-clause-next : goal.returns-clause-next
returns-clause-next c = cut_next

pub returns-clause-opened : goal.returns-clause-opened
returns-clause-opened c = cut_opened

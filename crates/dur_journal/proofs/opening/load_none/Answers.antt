use Rattle.dur_journal.proofs.Loads.{found_none}
use Rattle.dur_journal.proofs.opening.load_none.Goals as goal

pub returns-in-Ok-clause-ok : goal.returns-in-Ok-clause-ok
returns-in-Ok-clause-ok c i is none = found_none c.args.plan.now i c.args.found c.in-Ok.view is none c.in-Ok.ensures.view

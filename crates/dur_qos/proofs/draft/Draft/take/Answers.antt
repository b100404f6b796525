use Rattle.dur_qos.proofs.Goods.{line_added_good}
use Rattle.dur_qos.proofs.draft.Draft.take.Goals as goal

pub returns-in-Ok-clause-good : goal.returns-in-Ok-clause-good
returns-in-Ok-clause-good c old = line_added_good _ _ _ c.args.text.now _ c.in-Ok.ensures c.add_line.ensures.ok c.add_line.ensures.same old

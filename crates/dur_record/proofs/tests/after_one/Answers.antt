use Rattle.dur_view.specs.History.{Start}
use Rattle.dur_record.proofs.tests.after_one.Goals as goal

pub both-requires : goal.both-requires
both-requires c = (Start c.args.view.now, c.in-Ok.ensures)

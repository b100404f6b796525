use Rattle.dur_record.proofs.Answering.{answers_view}
use Rattle.dur_record.proofs.view.read_view.Goals as goal

pub returns : goal.returns
returns c = answers_view _ _ _ c.whole_view.ensures.ok c.whole_view.ensures.sound c.whole_view.ensures.err

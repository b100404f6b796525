use Rattle.dur_hub.proofs.Calls.{takes}
use Rattle.dur_hub.proofs.hub.Hub.take.Goals as goal

pub returns : goal.returns
returns c = takes _ _ _ c.take.ensures.from c.take.ensures.entries c.take.ensures.after

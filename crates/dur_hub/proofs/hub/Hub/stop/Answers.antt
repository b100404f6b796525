use Rattle.dur_hub.proofs.Calls.{stops}
use Rattle.dur_hub.proofs.hub.Hub.stop.Goals as goal

pub returns : goal.returns
returns c = stops c.args.self.now

use Rattle.dur_hub.proofs.Calls.{tells_state}
use Rattle.dur_hub.proofs.hub.Hub.state.Goals as goal

pub returns : goal.returns
returns c = tells_state c.args.self.now

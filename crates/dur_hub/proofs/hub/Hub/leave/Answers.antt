use Rattle.dur_hub.proofs.Calls.{leaves}
use Rattle.dur_hub.proofs.hub.Hub.leave.Goals as goal

pub returns : goal.returns
returns c = leaves c.args.self.now _ c.saturating_sub-self.ensures

use Rattle.dur_hub.proofs.Receives.{receives, receives_none}
use Rattle.dur_hub.proofs.hub.Hub.receive.Goals as goal

pub returns-then-not-begin : goal.returns-then-not-begin
returns-then-not-begin c = receives_none _ _ _ _ _ c.if-not-begin.ensures c.no_facts.ensures

pub returns : goal.returns
returns c = receives _ _ _ _ _ _ c.requires c.if-not-begin.ensures c.hear_facts.ensures

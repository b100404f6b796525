use Rattle.rtps_message.proofs.Once.{only_by}
use Rattle.rtps_message.proofs.hearing.facts_of.Goals as goal

pub returns-clause-only : goal.returns-clause-only
returns-clause-only c = only_by c.args.own c.args.datagram.now _ c.hear_all.ensures.heard

use Rattle.rtps_frag.proofs.Once.{only_one, as_ever}
use Rattle.rtps_frag.proofs.joiner.Joiner.hear_of.Goals as goal

pub returns-in-Ok-clause-only : goal.returns-in-Ok-clause-only
returns-in-Ok-clause-only c = only_one c.args.own c.args.datagram.now c.args.self.now c.hear_all.new.self c.in-Ok.joined c.in-Ok.ensures.joins

pub returns-in-Ok-clause-plain : goal.returns-in-Ok-clause-plain
returns-in-Ok-clause-plain c = as_ever c.args.own c.args.datagram.now c.args.self.now c.hear_all.new.self c.in-Ok.joined c.in-Ok.ensures.joins

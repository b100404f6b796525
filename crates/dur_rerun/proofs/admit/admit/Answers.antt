use Rattle.dur_rerun.proofs.Admitting.{admitted}
use Rattle.dur_rerun.proofs.admit.admit.Goals as goal

pub returns : goal.returns
returns c =
    admitted c.args.own c.args.datagram.now c.in_ok-heard.heard c.receive-reply.result c.in_ok-nacks.nacks.items c.args.hub.now c.receive-reply.new.self
    c.in_ok-heard.ensures.heard c.in_ok-nacks.ensures c.receive-reply.ensures c.if-reply.false

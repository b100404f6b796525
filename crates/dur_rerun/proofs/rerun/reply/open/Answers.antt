use Rattle.dur_rerun.proofs.NackReplies.{opens_there}
use Rattle.dur_rerun.proofs.rerun.reply.open.Goals as goal

pub returns-in-Some-clause-opens : goal.returns-in-Some-clause-opens
returns-in-Some-clause-opens c =
    opens_there c.args.own c.args.nack.now c.args.hub.now c.args.replays.now.begun.items c.in-Some.place c.in-Some.ensures.0 c.in-Some.ensures.1

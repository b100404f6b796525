use Rattle.dur_rerun.proofs.NackReplies.{opens_nobody, opens_pushed, starts_as}
use Rattle.dur_rerun.proofs.rerun.reply.begin.Goals as goal

pub returns-in-None-clause-opens : goal.returns-in-None-clause-opens
returns-in-None-clause-opens c =
    opens_nobody c.args.own c.args.nack.now c.args.hub.now c.start.new.hub c.args.replays.now.begun.items c.requires.new
    (starts_as _ _ _ _ _ _ c.in-None.is c.in_ok-session.ensures)

pub returns-in_ok-place-in-Some-clause-opens : goal.returns-in_ok-place-in-Some-clause-opens
returns-in_ok-place-in-Some-clause-opens c =
    opens_pushed c.args.own c.args.nack.now c.args.hub.now c.start.new.hub c.args.replays.now.begun.items c.begin.new.self.begun.items c.in-Some.session c.in_ok-place-in-Some.place
    c.requires.new (starts_as _ _ _ _ _ _ c.in-Some.is c.in_ok-session.ensures) c.in_ok-place-in-Some.ensures.begun c.in_ok-place-in-Some.ensures.place

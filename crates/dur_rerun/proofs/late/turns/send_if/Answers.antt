use Rattle.std.proofs.Common.{sym, subst, Bool}
use Rattle.dur_rerun.specs.Late.Steps.{SendsOf}
use Rattle.dur_rerun.proofs.TurnSteps.{sends_none, send_ok}
use Rattle.dur_rerun.proofs.late.turns.send_if.Goals as goal

pub returns-then-not-asks-clause-sends : goal.returns-then-not-asks-clause-sends
returns-then-not-asks-clause-sends g c = λ l st.
    subst (λ (b : Bool). SendsOf l b c.args.late.now g.L.Link.tells (g.L.Link.sent c.args.link.now) (g.L.Link.sent c.args.link.now)) (sym c.if-not-asks.true)
    (sends_none l c.args.late.now g.L.Link.tells (g.L.Link.sent c.args.link.now) st)

pub returns-clause-sends : goal.returns-clause-sends
returns-clause-sends g c =
    send_ok c.send.result c.args.late.now c.nack-count.new.self c.args.asks _ g.L.Link.tells (g.L.Link.sent c.args.link.now) (g.L.Link.sent c.send.new.link)
    c.if-not-asks.false c.nack-count.ensures.nack c.nack-count.ensures.after c.send.ensures.sent

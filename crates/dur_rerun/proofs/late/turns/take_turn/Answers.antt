use Rattle.dur_rerun.proofs.TurnSteps.{turn_ok}
use Rattle.dur_rerun.proofs.late.turns.take_turn.Goals as goal

pub returns-clause-takes : goal.returns-clause-takes
returns-clause-takes g c =
    turn_ok c.send_if.result c.args.late.now c.hear.new.late c.send_if.new.late _ c.in_ok-asks.asks g.L.Link.tells _ _ _ _ _ _
    c.in_ok-asks.ensures.hears c.send_if.ensures.sends c.in_ok-got.ensures.heard c.send_if.ensures.unheard c.receive.ensures.unsent

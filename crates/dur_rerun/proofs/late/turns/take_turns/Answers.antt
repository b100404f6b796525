use Rattle.std.proofs.Common.{arith, ◌∙◌}
use Rattle.dur_rerun.proofs.TurnSteps.{goes_on, goes_to_done}
use Rattle.dur_rerun.proofs.late.turns.take_turns.Goals as goal

pub returns-then-done-clause-goes : goal.returns-then-done-clause-goes
returns-then-done-clause-goes g c = λ l st no.
    goes_to_done l c.loop-taken.late c.take_turn.new.late c.loop-taken.taken c.args.turns c.done.result g.L.Link.tells _ _ _ _ _ _
    (c.loop-taken.invariant.goes l st no) c.in_ok-take_turn.ensures.takes c.done.ensures c.if-done.true (omega (arith, c.loop-taken-test.true))

pub loop-taken-preserved : goal.loop-taken-preserved
loop-taken-preserved g c = record {
  goes = λ m st no.
      goes_on m c.loop-taken.late c.take_turn.new.late c.loop-taken.taken c.done.result g.L.Link.tells _ _ _ _ _ _
      (c.loop-taken.invariant.goes m st no) c.in_ok-take_turn.ensures.takes c.done.ensures c.if-done.false;
  room = c.take_turn.ensures.room ∙ c.loop-taken.invariant.room;
  later = omega (arith, c.loop-taken.invariant.later, c.take_turn.ensures.later);
}

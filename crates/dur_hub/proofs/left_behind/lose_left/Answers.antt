use Rattle.std.proofs.Common.{refl, arith, subst, sym}
use Rattle.dur_hub.proofs.Losing.{Losing, losing_more, losing_stopped, losing_all, head_of}
use Rattle.dur_hub.proofs.left_behind.lose_left.Goals as goal

pub returns-then-not-lose_one : goal.returns-then-not-lose_one
returns-then-not-lose_one c =
    losing_stopped _ _ _ _ _ _ c.in-Some.leaver.now _ c.loop-leaver.invariant
    (head_of c.loop-leaver.leaving.items c.in-Some.leaver.now c.in-Some.ensures.item.3.0 c.in-Some.ensures.lookup)
    (c.if-not-lose_one.ensures.stopped refl)

pub loop-leaver-preserved : goal.loop-leaver-preserved
loop-leaver-preserved c =
    subst
    (λ q. Losing c.args.ledger.now c.args.leaving.now.items c.args.moment c.lose_one.new.ledger q)
    (sym c.pop_front-lost.ensures.rest)
    (losing_more _ _ _ _ _ _ c.in-Some.leaver.now _ c.loop-leaver.invariant (head_of c.loop-leaver.leaving.items c.in-Some.leaver.now c.in-Some.ensures.item.3.0 c.in-Some.ensures.lookup)
    (c.if-not-lose_one.ensures.lost refl))

pub returns : goal.returns
returns c =
    losing_all _ _ _ _ _ (omega (arith, c.in_default.ensures.item.3)) c.loop-leaver.invariant

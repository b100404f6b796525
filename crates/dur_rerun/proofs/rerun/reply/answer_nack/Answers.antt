use Rattle.std.proofs.Common.{rules, ℕ, List}
use Rattle.std.proofs.lemmas.Result.{err_from_is_err_and}
use Rattle.dur_rerun.specs.Rerun.Steps.{IsRepliedAt, BeginsAt}
use Rattle.dur_rerun.proofs.SendsOut.{goes_err, goes_nowhere, all_out, so_far}
use Rattle.dur_rerun.proofs.NackReplies.{opens_as, passes, silent, replied, begun}
use Rattle.dur_rerun.proofs.rerun.reply.answer_nack.Goals as goal

pub returns-then-not-is_for_replay-clause-goes : goal.returns-then-not-is_for_replay-clause-goes
returns-then-not-is_for_replay-clause-goes g c =
    goes_nowhere _ _ _ _ _ _ _ _
    (passes c.args.plan.now c.args.own c.args.nack.now c.args.hub.now c.args.replays.now.begun.items (c.is_for_replay.ensures.none (search rules)))

pub returns-in_ok-answer-in-Some-clause-goes : goal.returns-in_ok-answer-in-Some-clause-goes
returns-in_ok-answer-in-Some-clause-goes g c =
    all_out _ _ _ _ _ _ _ _ (IsRepliedAt c.open.new.replays.begun.items c.in-Some.place c.args.nack.now.set c.answer.new.self.begun.items) _ _
    (so_far _ _ _ _ _ _ _ _ _ _ c.in_ok-answer-in-Some.ensures.goes)
    (λ (xs : List (List ℕ)) rep.
    replied c.args.plan.now c.args.own c.args.nack.now c.args.hub.now c.open.new.hub c.args.replays.now.begun.items c.open.new.replays.begun.items c.answer.new.self.begun.items c.in-Some.place xs
    (c.is_for_replay.ensures.some (search rules)) (opens_as _ _ _ _ _ _ _ _ c.in-Some.is c.in_ok-place.ensures.opens) rep)

pub returns-in-None-clause-goes : goal.returns-in-None-clause-goes
returns-in-None-clause-goes g c =
    goes_nowhere _ _ _ _ _ _ _ _
    (silent c.args.plan.now c.args.own c.args.nack.now c.args.hub.now c.open.new.hub c.args.replays.now.begun.items c.open.new.replays.begun.items
    (c.is_for_replay.ensures.some (search rules)) (opens_as _ _ _ _ _ _ _ _ c.in-None.is c.in_ok-place.ensures.opens))

pub returns-in_err-answer-in-Some-clause-goes : goal.returns-in_err-answer-in-Some-clause-goes
returns-in_err-answer-in-Some-clause-goes g c =
    let p = err_from_is_err_and c.from_residual-in_err-answer-in-Some.result c.from_residual-in_err-answer-in-Some.ensures.1 in
    rw p.1
    (goes_err _ _ _ _ _ _ _ c.in_err-answer-in-Some.field-0.0 p.0 (IsRepliedAt c.open.new.replays.begun.items c.in-Some.place c.args.nack.now.set c.answer.new.self.begun.items)
    (BeginsAt c.open.new.replays.begun.items c.in-Some.place c.args.nack.now.set) _ _ c.in_err-answer-in-Some.ensures.goes
    (λ (xs : List (List ℕ)) begins.
    begun c.args.plan.now c.args.own c.args.nack.now c.args.hub.now c.open.new.hub c.args.replays.now.begun.items c.open.new.replays.begun.items c.in-Some.place xs
    (c.is_for_replay.ensures.some (search rules)) (opens_as _ _ _ _ _ _ _ _ c.in-Some.is c.in_ok-place.ensures.opens) begins))

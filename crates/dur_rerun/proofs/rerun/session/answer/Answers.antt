use Rattle.std.proofs.Common.{inr, ℕ, List}
use Rattle.std.proofs.lemmas.Result.{err_from_is_err_and}
use Rattle.rel_writer.specs.Turns.{Replies as SessionReplies}
use Rattle.dur_rerun.specs.Rerun.Replies.{SessionBegins}
use Rattle.dur_rerun.specs.Rerun.Steps.{AreDataOf, IsBeatIf}
use Rattle.dur_rerun.proofs.SendsOut.{goes_on, goes_err, so_far, stays_on}
use Rattle.dur_rerun.proofs.SessionReplies.{replies_of, begins_of, cause_on}
use Rattle.dur_rerun.proofs.rerun.session.answer.Goals as goal

pub returns-in_err-send_numbers-clause-goes : goal.returns-in_err-send_numbers-clause-goes
returns-in_err-send_numbers-clause-goes g c =
    let a = c.on_nack-asked in
    let p = err_from_is_err_and c.from_residual.result c.from_residual.ensures.1 in
    rw p.1
    (goes_err _ _ _ _ _ _ _ c.in_err-send_numbers.field-0.0 p.0 _ _ (λ (sent : List (List ℕ)). SessionReplies c.args.session.now c.args.set.now sent a.new.self) (SessionBegins c.args.session.now c.args.set.now)
    c.in_err-send_numbers.ensures.goes
    (λ xs begun. begins_of c.args.session.now a.new.self c.args.set.now a.result.numbers xs a.ensures.after a.ensures.base a.ensures.numbers begun))

pub returns-clause-goes : goal.returns-clause-goes
returns-clause-goes g c =
    let a = c.on_nack-asked in
    let after = c.send_beat.new.session in
    let all = λ (xs ys : List (List ℕ)) (are : AreDataOf a.new.self a.result.numbers 256 xs) (behind : IsBeatIf a.result.beat a.new.self after ys).
    replies_of c.args.session.now a.new.self after c.args.set.now a.result.numbers a.result.beat xs ys a.ensures.after a.ensures.base a.ensures.numbers a.ensures.beat are behind in
    goes_on _ _ _ _ _ _ _ _ _ (λ (sent : List (List ℕ)). SessionReplies c.args.session.now c.args.set.now sent after) (SessionBegins c.args.session.now c.args.set.now)
    (AreDataOf a.new.self a.result.numbers 256) (IsBeatIf a.result.beat a.new.self after) (IsBeatIf a.result.beat a.new.self after) c.send_beat.result
    (so_far _ _ _ _ _ _ _ _ _ _ c.in_ok-send_numbers.ensures.goes) c.send_beat.ensures.goes all (λ xs ys are behind. inr (after, all xs ys are behind))

pub returns-clause-stays : goal.returns-clause-stays
returns-clause-stays g c = stays_on _ _ _ _ _ _ _ _ _ c.send_numbers.ensures.stays c.send_beat.ensures.stays

pub returns-clause-cause : goal.returns-clause-cause
returns-clause-cause g c = cause_on _ _ _ c.send_beat.result c.send_numbers.ensures.cause.later c.send_beat.ensures.cause

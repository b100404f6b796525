use Rattle.std.proofs.Common.{arith, ◌+◌, ℕ, List, Ok, Err}
use Rattle.std.proofs.lemmas.Result.{err_from_is_err_and}
use Rattle.dur_rerun.specs.Rerun.Steps.{AreAcks, BeginAcks, AreFirst, IsAck}
use Rattle.dur_rerun.proofs.SendsOut.{goes_on, goes_err, so_far, stays_on, ack_more}
use Rattle.dur_rerun.proofs.rerun.reply.send_acks.Goals as goal

pub loop-at-preserved : goal.loop-at-preserved
loop-at-preserved g c =
    let own = c.args.own in
    let acks = c.args.acks.now in
    let i = c.loop-at.at in
    let a = c.index-acks-at.result in
    let joins = λ (xs ys : List (List ℕ)). ack_more own acks i a xs ys (omega (arith, c.loop-at-test.true)) c.index-acks-at.is in
    record {
      goes =
          so_far _ _ _ _ _ _ _ _ _ _
          (goes_on _ _ _ _ _ _ _ _ _ (AreFirst own acks (i + 1)) (BeginAcks own acks) (AreFirst own acks i) (IsAck own a) (IsAck own a)
          (Ok c.in_ok-send_ack.field-0) c.loop-at.invariant.goes c.in_ok-send_ack.ensures.goes joins (λ xs ys before one. (i + 1, joins xs ys before one)));
      stays = stays_on _ _ _ _ _ _ _ _ _ c.loop-at.invariant.stays c.send_ack.ensures.stays;
      later = omega (arith, c.loop-at.invariant.later, c.send_ack.ensures.cause);
    }

pub returns-in_err-send_ack-clause-goes : goal.returns-in_err-send_ack-clause-goes
returns-in_err-send_ack-clause-goes g c =
    let own = c.args.own in
    let acks = c.args.acks.now in
    let i = c.loop-at.at in
    let a = c.index-acks-at.result in
    let joins = λ (xs ys : List (List ℕ)). ack_more own acks i a xs ys (omega (arith, c.loop-at-test.true)) c.index-acks-at.is in
    let p = err_from_is_err_and c.from_residual.result c.from_residual.ensures.1 in
    rw p.1
    (goes_err _ _ _ _ _ _ _ c.in_err-send_ack.field-0.0 p.0 (AreFirst own acks (i + 1)) (BeginAcks own acks) (AreAcks own acks) (BeginAcks own acks)
    (goes_on _ _ _ _ _ _ _ _ _ (AreFirst own acks (i + 1)) (BeginAcks own acks) (AreFirst own acks i) (IsAck own a) (IsAck own a)
    (Err c.in_err-send_ack.field-0.0) c.loop-at.invariant.goes c.in_err-send_ack.ensures.goes joins (λ xs ys before one. (i + 1, joins xs ys before one)))
    (λ xs begun. begun))

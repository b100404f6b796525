use Rattle.std.proofs.Common.{refl, arith, length, take, ◌+◌, ◌<◌, ℕ, List, Ok, Err}
use Rattle.std.proofs.lemmas.Result.{err_from_is_err_and}
use Rattle.dur_rerun.specs.Rerun.Steps.{AreReplied, BeginNacks, IsNackReplied, BeginsNack}
use Rattle.dur_rerun.proofs.SendsOut.{goes_on, goes_err, so_far, all_out, none_yet, stays_on}
use Rattle.dur_rerun.proofs.NackReplies.{nack_more, nack_begins, none_replied, all_replied}
use Rattle.dur_rerun.proofs.Sendable.{still_over}
use Rattle.dur_rerun.proofs.rerun.reply.answer_nacks.Goals as goal

pub loop-at-init : goal.loop-at-init
loop-at-init g c = record {
  goes = none_yet _ _ _ _ _ _ (none_replied c.args.plan.now c.args.own c.args.nacks.now c.args.hub.now c.args.replays.now.begun.items);
  stays = record { ready = c.requires.ready; same = refl; keeps = refl };
  later = omega arith;
}

pub loop-at-preserved : goal.loop-at-preserved
loop-at-preserved g c =
    let plan = c.args.plan.now in
    let own = c.args.own in
    let ns = c.args.nacks.now in
    let i = c.loop-at.at in
    let n = c.index-nacks-at.result in
    let lt : i < length ns = omega (arith, c.loop-at-test.true) in
    let old = c.args.hub.now in
    let mid = c.loop-at.hub in
    let new = c.answer_nack.new.hub in
    let before = c.args.replays.now.begun.items in
    let between = c.loop-at.replays.begun.items in
    let behind = c.answer_nack.new.replays.begun.items in
    record {
      goes =
          so_far _ _ _ _ _ _ _ _ _ _
          (goes_on _ _ _ _ _ _ _ _ _ (AreReplied plan own (take (i + 1) ns) old before new behind) (BeginNacks plan own ns old before) (AreReplied plan own (take i ns) old before mid between)
          (IsNackReplied plan own n mid between new behind) (BeginsNack plan own n mid between)
          (Ok c.in_ok-answer_nack.field-0) c.loop-at.invariant.goes c.in_ok-answer_nack.ensures.goes
          (nack_more plan own ns i n lt c.index-nacks-at.is old mid new before between behind) (nack_begins plan own ns i n lt c.index-nacks-at.is old mid new before between behind));
      stays = stays_on _ _ _ _ _ _ _ _ _ c.loop-at.invariant.stays c.answer_nack.ensures.stays;
      later = omega (arith, c.loop-at.invariant.later, c.answer_nack.ensures.later);
    }

pub returns-in_err-answer_nack-clause-goes : goal.returns-in_err-answer_nack-clause-goes
returns-in_err-answer_nack-clause-goes g c =
    let plan = c.args.plan.now in
    let own = c.args.own in
    let ns = c.args.nacks.now in
    let i = c.loop-at.at in
    let n = c.index-nacks-at.result in
    let lt : i < length ns = omega (arith, c.loop-at-test.true) in
    let old = c.args.hub.now in
    let mid = c.loop-at.hub in
    let new = c.answer_nack.new.hub in
    let before = c.args.replays.now.begun.items in
    let between = c.loop-at.replays.begun.items in
    let behind = c.answer_nack.new.replays.begun.items in
    let p = err_from_is_err_and c.from_residual.result c.from_residual.ensures.1 in
    rw p.1
    (goes_err _ _ _ _ _ _ _ c.in_err-answer_nack.field-0.0 p.0 (AreReplied plan own (take (i + 1) ns) old before new behind) (BeginNacks plan own ns old before) (AreReplied plan own ns old before new behind) (BeginNacks plan own ns old before)
    (goes_on _ _ _ _ _ _ _ _ _ (AreReplied plan own (take (i + 1) ns) old before new behind) (BeginNacks plan own ns old before) (AreReplied plan own (take i ns) old before mid between)
    (IsNackReplied plan own n mid between new behind) (BeginsNack plan own n mid between)
    (Err c.in_err-answer_nack.field-0.0) c.loop-at.invariant.goes c.in_err-answer_nack.ensures.goes
    (nack_more plan own ns i n lt c.index-nacks-at.is old mid new before between behind) (nack_begins plan own ns i n lt c.index-nacks-at.is old mid new before between behind))
    (λ xs begun. begun))

pub returns-clause-goes : goal.returns-clause-goes
returns-clause-goes g c =
    all_out _ _ _ _ _ _ _ _ (AreReplied c.args.plan.now c.args.own (take c.loop-at.at c.args.nacks.now) c.args.hub.now c.args.replays.now.begun.items c.loop-at.hub c.loop-at.replays.begun.items) _ _
    c.loop-at.invariant.goes
    (λ (xs : List (List ℕ)) are.
    all_replied c.args.plan.now c.args.own c.args.nacks.now c.loop-at.at c.args.hub.now c.loop-at.hub c.args.replays.now.begun.items c.loop-at.replays.begun.items xs (omega (arith, c.loop-at-test.false, c.loop-at.auto.at-end)) are)

pub answer_nack-requires-clause-over : goal.answer_nack-requires-clause-over
answer_nack-requires-clause-over g c =
    still_over c.args.plan.now c.args.own (take c.loop-at.at c.args.nacks.now) c.args.hub.now c.loop-at.hub c.args.replays.now.begun.items c.loop-at.replays.begun.items
    c.loop-at.invariant.goes.messages c.requires.over c.loop-at.invariant.goes.all

use Rattle.std.proofs.Common.{ℕ, List, subst, Err}
use Rattle.std.proofs.lemmas.Result.{err_from_is_err_and}
use Rattle.dur_hub.specs.declared.reply.Ack.{Ack}
use Rattle.dur_rerun.specs.Rerun.Steps.{AreAcks, BeginAcks, AreReplied, BeginNacks}
use Rattle.dur_rerun.proofs.SendsOut.{goes_on, goes_err, so_far}
use Rattle.dur_rerun.proofs.WholeReplies.{AllReplied, BothBegin, all_join, begin_acks, begin_nacks, all_replied}
use Rattle.dur_rerun.proofs.rerun.reply.reply.Goals as goal

pub returns-clause-replied : goal.returns-clause-replied
returns-clause-replied g c =
    let plan = c.args.plan.now in
    let own = c.args.own in
    let acks = c.args.acks.now in
    let ns = c.args.nacks.now in
    let old = c.args.hub.now in
    let new = c.answer_nacks.new.hub in
    let before = c.args.replays.now.begun.items in
    let behind = c.answer_nacks.new.replays.begun.items in
    let shown = c.as_slice.result.now in
    let are = λ (xs : List (List ℕ)) (first : AreAcks own shown xs). subst (λ (l : List Ack). AreAcks own l xs) c.as_slice.ensures first in
    all_replied plan own acks ns old new before behind _ _ _ _ _ _ _ c.answer_nacks.result c.last.ensures
    (goes_on _ _ _ _ _ _ _ _ _ (AllReplied plan own acks ns old new before behind) (BothBegin plan own acks ns old new before behind) (AreAcks own shown)
    (AreReplied plan own ns old before new behind) (BeginNacks plan own ns old before)
    c.answer_nacks.result (so_far _ _ _ _ _ _ _ _ _ _ c.in_ok-send_acks.ensures.goes) c.answer_nacks.ensures.goes
    (λ (xs zs : List (List ℕ)) first second. all_join plan own acks ns old new before behind xs zs (are xs first) second)
    (λ (xs zs : List (List ℕ)) first second. begin_nacks plan own acks ns old new before behind xs zs (are xs first) second))

pub returns-in_err-send_acks-clause-replied : goal.returns-in_err-send_acks-clause-replied
returns-in_err-send_acks-clause-replied g c =
    let plan = c.args.plan.now in
    let own = c.args.own in
    let acks = c.args.acks.now in
    let ns = c.args.nacks.now in
    let old = c.args.hub.now in
    let before = c.args.replays.now.begun.items in
    let shown = c.as_slice.result.now in
    let p = err_from_is_err_and c.from_residual.result c.from_residual.ensures.1 in
    rw p.1
    (all_replied plan own acks ns old old before before _ _ _ _ _ _ _ (Err p.0) c.last.ensures
    (goes_err _ _ _ _ _ _ _ c.in_err-send_acks.field-0.0 p.0 (AreAcks own shown) (BeginAcks own shown) (AllReplied plan own acks ns old old before before) (BothBegin plan own acks ns old old before before)
    c.in_err-send_acks.ensures.goes
    (λ (xs : List (List ℕ)) begun. begin_acks plan own acks ns old old before before xs (subst (λ (l : List Ack). BeginAcks own l xs) c.as_slice.ensures begun))))

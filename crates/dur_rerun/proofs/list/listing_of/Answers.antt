use Rattle.std.proofs.Common.{ap, ◌∙◌, arith}
use Rattle.std.proofs.lemmas.Result.{err_from_is_err_and}
use Rattle.dur_qos.specs.declared.plan.Plan.{Plan}
use Rattle.dur_rerun.proofs.Lists.{lists, rest_stops, few_topics}
use Rattle.dur_rerun.proofs.Opened.{plan_good}
use Rattle.dur_rerun.proofs.list.listing_of.Goals as goal

pub open-requires : goal.open-requires
open-requires g c =
    let o = c.in_ok-opened.ensures.opens in
    plan_good o.0 c.in_ok-opened.opened o.2

pub text_of-requires : goal.text_of-requires
text_of-requires g c =
    let o = c.in_ok-opened.ensures.opens in
    few_topics o.0 c.in_ok-opened.opened _ o.2 (c.as_slice.ensures ∙ ap (λ (p : Plan). p.topics) c.in_ok-plan.ensures)

pub returns-in_err-admit_rest-clause-answers : goal.returns-in_err-admit_rest-clause-answers
returns-in_err-admit_rest-clause-answers g c =
    let o = c.in_ok-opened.ensures.opens in
    let p = err_from_is_err_and c.from_residual-in_err-admit_rest.result c.from_residual-in_err-admit_rest.ensures.1 in
    rw (p.1, p.2) (rest_stops _ _ o.0 c.args.at c.args.epoch c.in_ok-opened.opened o.2 _ o.1 c.in_err-admit_rest.ensures.ends c.in_err-admit_rest.ensures.stops)

pub returns-in_err-admit_rest-clause-read : goal.returns-in_err-admit_rest-clause-read
returns-in_err-admit_rest-clause-read g c =
    let p = err_from_is_err_and c.from_residual-in_err-admit_rest.result c.from_residual-in_err-admit_rest.ensures.1 in
    rw (p.1, p.2) (λ is. omega (arith, c.in_ok-opened.ensures.later, c.in_err-admit_rest.ensures.read is))

pub returns-clause-text : goal.returns-clause-text
returns-clause-text g c =
    let o = c.in_ok-opened.ensures.opens in
    lists _ _ o.0 c.args.at c.args.epoch c.in_ok-opened.opened o.2 _ _ _ _ _ o.1 c.own_prefix-own.ensures (c.as_slice.ensures ∙ ap (λ (p : Plan). p.topics) c.in_ok-plan.ensures) c.in_ok-hub.ensures c.in_ok-admit_rest.ensures.takes c.in_ok-text.ensures

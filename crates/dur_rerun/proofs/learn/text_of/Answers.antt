use Rattle.std.proofs.Common.{[]}
use Rattle.std.proofs.lemmas.Result.{err_from_is_err_and}
use Rattle.dur_rerun.proofs.Learning.{rest_stops, learn_text, learn_fails}
use Rattle.dur_rerun.proofs.Opened.{plan_good}
use Rattle.dur_rerun.proofs.learn.text_of.Goals as goal

pub returns-in_err-last-clause-answers : goal.returns-in_err-last-clause-answers
returns-in_err-last-clause-answers g c =
    let o = c.in_ok-opened.ensures.opens in
    let p = err_from_is_err_and c.from_residual-in_err-last.result c.from_residual-in_err-last.ensures.1 in
    rw (p.1, p.2) (rest_stops _ _ o.0 c.args.at c.args.epoch c.in_ok-opened.opened o.2 _ o.1 c.in_err-last.ensures.ends c.in_err-last.ensures.stops)

pub returns-in_err-learnt-clause-answers : goal.returns-in_err-learnt-clause-answers
returns-in_err-learnt-clause-answers g c =
    let o = c.in_ok-opened.ensures.opens in
    let p = err_from_is_err_and c.from_residual-in_err-learnt.result c.from_residual-in_err-learnt.ensures.1 in
    rw (p.1, p.2) (learn_fails _ _ _ o.0 c.args.at c.args.epoch _ _ c.in_ok-opened.opened o.2 _ _ _ o.1 c.own_prefix-own.ensures (c.new-directory.ensures c.in_ok-opened.opened.plan) c.in_ok-last.ensures.hears c.later.ensures c.in_err-learnt.ensures.too_many)

pub write_plan-requires : goal.write_plan-requires
write_plan-requires g c =
    let o = c.in_ok-opened.ensures.opens in
    let m = c.in_ok-last.ensures.more in
    c.in_ok-learnt.ensures.ok.good m.0 (plan_good o.0 c.in_ok-opened.opened o.2) (m.1 [] (c.new-directory.ensures c.in_ok-opened.opened.plan))

pub returns-clause-text : goal.returns-clause-text
returns-clause-text g c =
    let o = c.in_ok-opened.ensures.opens in
    let m = c.in_ok-last.ensures.more in
    let good = c.in_ok-learnt.ensures.ok.good m.0 (plan_good o.0 c.in_ok-opened.opened o.2) (m.1 [] (c.new-directory.ensures c.in_ok-opened.opened.plan)) in
    learn_text _ _ o.0 c.args.at c.args.epoch _ _ c.in_ok-opened.opened o.2 _ _ _ _ _ o.1 c.own_prefix-own.ensures (c.new-directory.ensures c.in_ok-opened.opened.plan) c.in_ok-last.ensures.hears c.later.ensures c.in_ok-learnt.ensures.ok.is good c.in_ok-text.ensures.text

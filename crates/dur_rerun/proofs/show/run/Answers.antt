use Rattle.std.proofs.Common.{refl, inl, ◌∙◌}
use Rattle.std.proofs.lemmas.Result.{err_from_is_err_and}
use Rattle.dur_rerun.specs.Command.{GoesOut}
use Rattle.dur_rerun.specs.Input.Breaks.{StopsPlan}
use Rattle.dur_rerun.specs.Show.Answer.{ShowAnswers}
use Rattle.dur_rerun.proofs.Commands.{if_some, if_any, nothing_out}
use Rattle.dur_rerun.proofs.Whole.{plan_shows, rest_out}
use Rattle.dur_rerun.proofs.show.run.Goals as goal

pub returns-in_err-opened-clause-out : goal.returns-in_err-opened-clause-out
returns-in_err-opened-clause-out g c =
    let e = c.in_err-opened.ensures in
    let s = c.in_err-opened.field-0.0 in
    let p = err_from_is_err_and c.from_residual.result c.from_residual.ensures.1 in
    rw (p.1, p.2) (if_some (g.S.Source.left c.args.input.now) (λ bytes. StopsPlan bytes s) (λ bytes. GoesOut (ShowAnswers c.args.epoch) bytes s g.R.Machine.tells (g.R.Machine.world c.args.rig.now).now (g.R.Machine.world c.args.rig.now).now)
    (λ bytes stops. nothing_out (ShowAnswers c.args.epoch) bytes s _ _ (plan_shows s c.args.epoch bytes e.ends stops)) e.stops)

pub returns-in_err-printer-clause-out : goal.returns-in_err-printer-clause-out
returns-in_err-printer-clause-out g c =
    let p = err_from_is_err_and c.from_residual-in_err-printer.result c.from_residual-in_err-printer.ensures.1 in
    rw (p.1, p.2) (if_any (g.S.Source.left c.args.input.now) _ (λ bytes. nothing_out (ShowAnswers c.args.epoch) bytes _ _ _ (inl refl)))

pub returns-clause-out : goal.returns-clause-out
returns-clause-out g c =
    let o = c.in_ok-opened.ensures.opens in
    let q = c.in_ok-printer.ensures in
    rest_out _ _ o.0 c.args.epoch c.in_ok-opened.opened o.2 c.in_ok-printer.printer _ _ _ _ o.1 (q.own ∙ c.own_prefix-own.ensures) q.feed c.print_rest.ensures.out

use Rattle.std.proofs.Common.{refl, inr, ◌∙◌}
use Rattle.std.proofs.lemmas.Result.{err_from_is_err_and}
use Rattle.dur_rerun.proofs.Checks.{out_none, out_cut, out_all, found_reason, early_reason, memory_reason, cut_reason}
use Rattle.dur_rerun.proofs.check.run.Goals as goal

pub returns-in_err-looks-clause-reason : goal.returns-in_err-looks-clause-reason
returns-in_err-looks-clause-reason g c =
    let p = err_from_is_err_and c.from_residual.result c.from_residual.ensures.1 in
    rw (p.1, p.2) (early_reason _ _ _ _ _ c.in_err-looks.ensures.err c.in_err-looks.ensures.cause)

pub returns-in_err-looks-clause-out : goal.returns-in_err-looks-clause-out
returns-in_err-looks-clause-out g c told =
    let p = err_from_is_err_and c.from_residual.result c.from_residual.ensures.1 in
    rw (p.1, p.2) (out_none _ _ _ _ c.in_err-looks.ensures.err (c.in_err-looks.ensures.same told))

pub returns-in_err-text-clause-reason : goal.returns-in_err-text-clause-reason
returns-in_err-text-clause-reason g c =
    let p = err_from_is_err_and c.from_residual-in_err-text.result c.from_residual-in_err-text.ensures.1 in
    rw (p.1, p.2) (memory_reason _ _ _ _)

pub returns-in_err-text-clause-out : goal.returns-in_err-text-clause-out
returns-in_err-text-clause-out g c told =
    let p = err_from_is_err_and c.from_residual-in_err-text.result c.from_residual-in_err-text.ensures.1 in
    rw (p.1, p.2) (out_none _ _ _ _ (inr refl) (c.in_ok-looks.ensures.same told))

pub returns-in_err-print-clause-reason : goal.returns-in_err-print-clause-reason
returns-in_err-print-clause-reason g c =
    let p = err_from_is_err_and c.from_residual-in_err-print.result c.from_residual-in_err-print.ensures.1 in
    rw (p.1, p.2) (cut_reason _ _ _ _ _ c.in_err-print.ensures.fault (rw c.in_ok-looks.ensures.keeps at c.in_err-print.ensures.cause.failed))

pub returns-in_err-print-clause-out : goal.returns-in_err-print-clause-out
returns-in_err-print-clause-out g c told =
    let p = err_from_is_err_and c.from_residual-in_err-print.result c.from_residual-in_err-print.ensures.1 in
    rw (p.1, p.2) (out_cut _ _ _ _ _ _ _ (c.in_ok-looks.ensures.ok told) (c.deref.ensures.value ∙ c.in_ok-text.ensures) c.in_err-print.ensures.fault (c.in_ok-looks.ensures.same told) c.in_err-print.ensures.some)

pub returns-clause-reason : goal.returns-clause-reason
returns-clause-reason g c = found_reason _ _ _ _ _ _ c.verdict.ensures

pub returns-clause-out : goal.returns-clause-out
returns-clause-out g c told =
    out_all _ _ _ _ _ _ _ (c.in_ok-looks.ensures.ok told) (c.deref.ensures.value ∙ c.in_ok-text.ensures) c.verdict.ensures (c.in_ok-looks.ensures.same told) c.in_ok-print.ensures.all

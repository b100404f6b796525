use Rattle.std.proofs.lemmas.Result.{err_from_is_err_and}
use Rattle.rtps_submsg.proofs.Found.{data_spells, data_breaks}
use Rattle.rtps_submsg.proofs.data.data.Goals as goal

pub returns-in_ok-inline-in-Ok-clause-ok : goal.returns-in_ok-inline-in-Ok-clause-ok
returns-in_ok-inline-in-Ok-clause-ok c = data_spells _ _ _ _ _ _ c.in-Ok.ensures.gives (rw (← c.has.ensures) c.in_ok-inline-in-Ok.ensures.ok) c.form-form.ensures c.payload.ensures

pub returns-in_err-inline-in-Ok-clause-err : goal.returns-in_err-inline-in-Ok-clause-err
returns-in_err-inline-in-Ok-clause-err c =
    let p = err_from_is_err_and c.from_residual.result c.from_residual.ensures.1 in
    rw (p.1, p.2) (data_breaks _ _ _ _ _ c.in-Ok.ensures.gives (rw (← c.has.ensures) c.in_err-inline-in-Ok.ensures.err))

use Rattle.std.proofs.Common.{◌∙◌, sym}
use Rattle.std.proofs.lemmas.Result.{err_from_is_err_and}
use Rattle.durability.proofs.Lines.{same_err}
use Rattle.durability.proofs.OneLine.{rerun_no}
use Rattle.durability.proofs.words.rerun_line.Goals as goal

pub returns-in_err-dir-clause-usage : goal.returns-in_err-dir-clause-usage
returns-in_err-dir-clause-usage c is line h =
    let p = err_from_is_err_and c.from_residual.result c.from_residual.ensures.1 in
    rerun_no _ line (c.in_err-dir.ensures.usage (same_err p.0 c.in_err-dir.field-0.0 _ (sym p.1 ∙ is) p.2)) h

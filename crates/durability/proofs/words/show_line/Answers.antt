use Rattle.std.proofs.Common.{arith, ◌∙◌, sym, refl, codes}
use Rattle.std.proofs.lemmas.Result.{err_from_is_err_and}
use Rattle.durability.specs.Commands.{show_names}
use Rattle.durability.proofs.Lines.{show_are, show_is, number_no, same_err}
use Rattle.durability.proofs.OneLine.{show_no}
use Rattle.durability.proofs.words.show_line.Goals as goal

pub returns-in_err-given-clause-usage : goal.returns-in_err-given-clause-usage
returns-in_err-given-clause-usage c is line h =
    let p = err_from_is_err_and c.from_residual-in_err-given.result c.from_residual-in_err-given.ensures.1 in
    show_no _ line (λ given epoch o en el. c.in_err-given.ensures.usage (codes "show") show_names c.in_ok-command.ensures refl show_are (same_err p.0 c.in_err-given.field-0.0 _ (sym p.1 ∙ is) p.2) given o) h

pub returns-in_err-epoch-clause-usage : goal.returns-in_err-epoch-clause-usage
returns-in_err-epoch-clause-usage c is line h =
    show_no _ line (λ given epoch o en el. number_no show_names _ c.in_ok-given.given (c.in_ok-given.ensures.ok (codes "show") show_names c.in_ok-command.ensures refl show_are) (codes "epoch") _ given epoch _ c.get_str.ensures c.in_err-epoch.ensures.usage o en (omega (arith, el))) h

pub returns-clause-line : goal.returns-clause-line
returns-clause-line c =
    let e = c.in_ok-epoch.ensures.ok in
    show_is _ c.in_ok-given.given _ _ (c.in_ok-given.ensures.ok (codes "show") show_names c.in_ok-command.ensures refl show_are) c.get_str.ensures e.0 (omega (arith, e.1))

use Rattle.std.proofs.Common.{arith, ◌∙◌, sym, refl, codes}
use Rattle.std.proofs.lemmas.Result.{err_from_is_err_and}
use Rattle.durability.specs.Commands.{list_names}
use Rattle.durability.proofs.Lines.{list_are, list_is, number_no, same_err}
use Rattle.durability.proofs.OneLine.{learn_no}
use Rattle.durability.proofs.words.learn_line.Goals as goal

pub returns-in_err-given-clause-usage : goal.returns-in_err-given-clause-usage
returns-in_err-given-clause-usage c is line h =
    let p = err_from_is_err_and c.from_residual-in_err-given.result c.from_residual-in_err-given.ensures.1 in
    learn_no _ line (λ given at epoch o an al en el. c.in_err-given.ensures.usage (codes "learn") list_names c.in_ok-command.ensures refl list_are (same_err p.0 c.in_err-given.field-0.0 _ (sym p.1 ∙ is) p.2) given o) h

pub returns-in_err-at-clause-usage : goal.returns-in_err-at-clause-usage
returns-in_err-at-clause-usage c is line h =
    learn_no _ line (λ given at epoch o an al en el. number_no list_names _ c.in_ok-given.given (c.in_ok-given.ensures.ok (codes "learn") list_names c.in_ok-command.ensures refl list_are) (codes "at") _ given at _ c.get_str.ensures c.in_err-at.ensures.usage o an (omega (arith, al))) h

pub returns-in_err-epoch-clause-usage : goal.returns-in_err-epoch-clause-usage
returns-in_err-epoch-clause-usage c is line h =
    learn_no _ line (λ given at epoch o an al en el. number_no list_names _ c.in_ok-given.given (c.in_ok-given.ensures.ok (codes "learn") list_names c.in_ok-command.ensures refl list_are) (codes "epoch") _ given epoch _ c.get_str-2.ensures c.in_err-epoch.ensures.usage o en (omega (arith, el))) h

pub returns-clause-line : goal.returns-clause-line
returns-clause-line c =
    let a = c.in_ok-at.ensures.ok in
    let e = c.in_ok-epoch.ensures.ok in
    list_is (codes "learn") _ c.in_ok-given.given _ _ _ _ (c.in_ok-given.ensures.ok (codes "learn") list_names c.in_ok-command.ensures refl list_are) c.get_str.ensures c.get_str-2.ensures a.0 (omega (arith, a.1)) e.0 (omega (arith, e.1))

use Rattle.std.proofs.Common.{◌∙◌, sym, refl, codes}
use Rattle.std.proofs.lemmas.Result.{err_from_is_err_and, IfOk-weaker}
use Rattle.durability.specs.Commands.{dir_names}
use Rattle.durability.specs.Options.{IsText}
use Rattle.durability.proofs.Lines.{dir_are, dir_is, value_no, same_err}
use Rattle.durability.proofs.words.dir_of.Goals as goal

pub returns-in_err-given-clause-usage : goal.returns-in_err-given-clause-usage
returns-in_err-given-clause-usage c is dir h =
    let p = err_from_is_err_and c.from_residual-in_err-given.result c.from_residual-in_err-given.ensures.1 in
    c.in_err-given.ensures.usage (codes "dir") dir_names c.in_ok-command.ensures refl dir_are (same_err p.0 c.in_err-given.field-0.0 _ (sym p.1 ∙ is) p.2) h.given h.options

pub returns-clause-dir : goal.returns-clause-dir
returns-clause-dir c =
    IfOk-weaker _ _ _ (λ a t. dir_is _ c.in_ok-given.given a _ (c.in_ok-given.ensures.ok (codes "dir") dir_names c.in_ok-command.ensures refl dir_are) c.get_str.ensures t) c.argument_of.ensures.ok

pub returns-clause-usage : goal.returns-clause-usage
returns-clause-usage c is dir h =
    value_no (λ v. IsText v dir) dir_names _ c.in_ok-given.given (c.in_ok-given.ensures.ok (codes "dir") dir_names c.in_ok-command.ensures refl dir_are) (codes "dir") _ h.given c.get_str.ensures (c.argument_of.ensures.usage is dir) h.options h.dir_is

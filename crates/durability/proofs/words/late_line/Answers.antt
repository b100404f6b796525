use Rattle.std.proofs.Common.{arith, ◌∙◌, sym, refl, codes}
use Rattle.std.proofs.lemmas.Result.{err_from_is_err_and}
use Rattle.durability.specs.Commands.{late_names}
use Rattle.durability.specs.Options.{IsHex, IsText, IsCount}
use Rattle.durability.proofs.Lines.{late_are, late_is, value_no, same_err}
use Rattle.durability.proofs.OneLine.{late_no}
use Rattle.durability.proofs.words.late_line.Goals as goal

pub returns-in_err-given-clause-usage : goal.returns-in_err-given-clause-usage
returns-in_err-given-clause-usage c is line h =
    let p = err_from_is_err_and c.from_residual-in_err-given.result c.from_residual-in_err-given.ensures.1 in
    late_no _ line (λ given r p' w e t o rh ph wh et tn tl. c.in_err-given.ensures.usage (codes "late") late_names c.in_ok-command.ensures refl late_are (same_err p.0 c.in_err-given.field-0.0 _ (sym p.1 ∙ is) p.2) given o) h

pub returns-in_err-reader-clause-usage : goal.returns-in_err-reader-clause-usage
returns-in_err-reader-clause-usage c is line h =
    late_no _ line (λ given r p w e t o rh ph wh et tn tl. value_no (λ v. IsHex 16 v r) late_names _ c.in_ok-given.given (c.in_ok-given.ensures.ok (codes "late") late_names c.in_ok-command.ensures refl late_are) (codes "reader") _ given c.get_str.ensures (c.in_err-reader.ensures.usage r) o rh) h

pub returns-in_err-prefix-clause-usage : goal.returns-in_err-prefix-clause-usage
returns-in_err-prefix-clause-usage c is line h =
    late_no _ line (λ given r p w e t o rh ph wh et tn tl. value_no (λ v. IsHex 8 v p) late_names _ c.in_ok-given.given (c.in_ok-given.ensures.ok (codes "late") late_names c.in_ok-command.ensures refl late_are) (codes "prefix") _ given c.get_str-2.ensures (c.in_err-prefix.ensures.usage p) o ph) h

pub returns-in_err-writer-clause-usage : goal.returns-in_err-writer-clause-usage
returns-in_err-writer-clause-usage c is line h =
    late_no _ line (λ given r p w e t o rh ph wh et tn tl. value_no (λ v. IsHex 4 v w) late_names _ c.in_ok-given.given (c.in_ok-given.ensures.ok (codes "late") late_names c.in_ok-command.ensures refl late_are) (codes "writer") _ given c.get_str-3.ensures (c.in_err-writer.ensures.usage w) o wh) h

pub returns-in_err-peer-clause-usage : goal.returns-in_err-peer-clause-usage
returns-in_err-peer-clause-usage c is line h =
    let p' = err_from_is_err_and c.from_residual-in_err-peer.result c.from_residual-in_err-peer.ensures.1 in
    late_no _ line (λ given r p w e t o rh ph wh et tn tl. value_no (λ v. IsText v e) late_names _ c.in_ok-given.given (c.in_ok-given.ensures.ok (codes "late") late_names c.in_ok-command.ensures refl late_are) (codes "peer") _ given c.get_str-4.ensures
    (c.in_err-peer.ensures.usage (same_err p'.0 c.in_err-peer.field-0.0 _ (sym p'.1 ∙ is) p'.2) e) o et) h

pub returns-in_err-turns-clause-usage : goal.returns-in_err-turns-clause-usage
returns-in_err-turns-clause-usage c is line h =
    late_no _ line (λ given r p w e t o rh ph wh et tn tl. value_no (λ v. IsCount v t) late_names _ c.in_ok-given.given (c.in_ok-given.ensures.ok (codes "late") late_names c.in_ok-command.ensures refl late_are) (codes "turns") _ given c.get_str-5.ensures (λ n. c.in_err-turns.ensures.usage t n (omega (arith, tl))) o tn) h

pub returns-clause-line : goal.returns-clause-line
returns-clause-line c =
    let t = c.in_ok-turns.ensures.ok in
    late_is _ c.in_ok-given.given _ _ _ _ _ _ _ _ _ _ (c.in_ok-given.ensures.ok (codes "late") late_names c.in_ok-command.ensures refl late_are) c.get_str.ensures c.get_str-2.ensures c.get_str-3.ensures c.get_str-4.ensures c.get_str-5.ensures
    c.in_ok-reader.ensures.ok c.in_ok-prefix.ensures.ok c.in_ok-writer.ensures.ok c.in_ok-peer.ensures.ok t.0 (omega (arith, t.1))

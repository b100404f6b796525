use Rattle.std.proofs.Common.{arith, ◌∙◌, sym, ap, ◌≡◌}
use Rattle.std.specs.Fmt.{decimal}
use Rattle.durability.proofs.Lines.{numeral, not_same}
use Rattle.durability.proofs.words.values.number.Goals as goal

pub returns-in-Err-clause-none : goal.returns-in-Err-clause-none
returns-in-Err-clause-none c n small is =
    let k = numeral c.args.text.now n small is in
    c.in-Err.ensures.value.0 (k.0, omega (arith, k.1, small))

pub returns-else-eq-clause-none : goal.returns-else-eq-clause-none
returns-else-eq-clause-none c n small is =
    let k = numeral c.args.text.now n small is in
    let same : c.in-Ok.number ≡ n = c.in-Ok.ensures.value.0.1 ∙ k.1 in
    not_same _ _ _ c.eq.ensures c.if-eq.false (c.format.ensures.text ∙ ap decimal same ∙ sym is)

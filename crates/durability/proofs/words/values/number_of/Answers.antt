use Rattle.std.proofs.Common.{arith, ◌∙◌, sym, ◌≡◌, ◌<◌, ◌^◌}
use Rattle.durability.proofs.Lines.{decimal_once}
use Rattle.durability.proofs.words.values.number_of.Goals as goal

pub returns-else-number-most-clause-usage : goal.returns-else-number-most-clause-usage
returns-else-number-most-clause-usage c m is small =
    let some = c.in-Some-number.ensures.some in
    let known = rw c.in-Some.is at is in
    let least : m < 2 ^ 64 = omega (arith, small, c.ranges.most) in
    let same : c.in-Some-number.number ≡ m = decimal_once c.in-Some-number.number m some.1 least (sym some.0 ∙ known) in
    let bad : ⊥ = omega (arith, same, small, c.if-number-most.false) in
    bad

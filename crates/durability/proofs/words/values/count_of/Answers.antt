use Rattle.std.proofs.Common.{arith, ◌<◌, ◌^◌}
use Rattle.durability.proofs.Lines.{number_once}
use Rattle.durability.proofs.words.values.count_of.Goals as goal

pub returns-in-Ok-eq0-clause-usage : goal.returns-in-Ok-eq0-clause-usage
returns-in-Ok-eq0-clause-usage c n is small =
    let least : n < 2 ^ 64 = omega (arith, small, c.ranges.most) in
    let same = number_once _ _ n (omega arith) least c.in-Ok-eq0.ensures.ok.0 is.0 in
    let bad : ⊥ = omega (arith, same, is.1) in
    bad

use Rattle.std.proofs.Common.{◌∙◌, sym}
use Rattle.rel_reader.proofs.Learning.{same_shown}
use Rattle.rel_reader.proofs.Sets.{a_bit}
use Rattle.rel_reader.proofs.proxy.Proxy.pass_one.Goals as goal

pub returns-then-has : goal.returns-then-has
returns-then-has c = λ n f s. same_shown _ n _ _ (λ k. a_bit n c.args.set.now c.args.i (f k) (sym c.has.ensures ∙ c.if-has.true) k) (rw (c.get-base.ensures.value, c.base.ensures) at (c.learn.ensures n f s))

use Rattle.std.proofs.Common.{◌≡◌, ℕ, subst, arith}
use Rattle.rel_reader.specs.Knowledge.{or_else}
use Rattle.rel_reader.specs.Windows.{Shows}
use Rattle.rel_reader.specs.Steps.{said_named}
use Rattle.rel_reader.proofs.Learning.{same_shown}
use Rattle.rel_reader.proofs.Sets.{one_more}
use Rattle.rel_reader.proofs.proxy.Proxy.pass_named.Goals as goal

pub loop-i-preserved : goal.loop-i-preserved
loop-i-preserved c = λ n f s. same_shown _ n _ _ (λ k. one_more n c.args.set.now c.loop-i.i (f k) k) (c.pass_one.ensures n _ (c.loop-i.invariant n f s))

pub returns : goal.returns
returns c = λ n f s.
    let all : c.loop-i.i ≡ c.args.set.now.count = omega arith in
    subst (λ (i : ℕ). Shows c.loop-i.self n (λ k. or_else (f k) (said_named n c.args.set.now i k))) all (c.loop-i.invariant n f s)

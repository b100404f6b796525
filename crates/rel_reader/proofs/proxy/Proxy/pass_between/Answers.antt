use Rattle.std.proofs.Common.{ap, arith}
use Rattle.rel_reader.specs.Knowledge.{or_else}
use Rattle.rel_reader.specs.Windows.{Window}
use Rattle.rel_reader.proofs.Learning.{same_shown}
use Rattle.rel_reader.proofs.Between.{one_more, to_the_window}
use Rattle.rel_reader.proofs.proxy.Proxy.pass_between.Goals as goal

pub loop-k-preserved : goal.loop-k-preserved
loop-k-preserved c = λ n f s. same_shown _ n _ _ (λ k. one_more n c.args.from c.loop-k.k (f k) k (omega arith)) (c.learn.ensures n _ (c.loop-k.invariant n f s))

pub returns : goal.returns
returns c = λ n f s. same_shown _ n _ _ (λ k. ap (or_else (f k)) (to_the_window n c.args.from c.args.to c.loop-k.k k (omega (arith, c.max-end.ensures, c.min.ensures, ap (λ (w : Window). w.next) c.self.view_is, s.next)))) (c.loop-k.invariant n f s)

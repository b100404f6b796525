use Rattle.std.proofs.Common.{ap, arith}
use Rattle.rel_reader.specs.Knowledge.{or_else}
use Rattle.rel_reader.specs.Windows.{Window}
use Rattle.rel_reader.proofs.Learning.{same_shown}
use Rattle.rel_reader.proofs.Between.{ahead}
use Rattle.rel_reader.proofs.proxy.Proxy.pass_below.Goals as goal

pub returns-else-start-self : goal.returns-else-start-self
returns-else-start-self c = λ n f s. same_shown _ n _ _ (λ k. ap (or_else (f k)) (ahead n c.args.start c.args.base k (omega (arith, ap (λ (w : Window). w.next) c.self.view_is, s.next)))) (c.pass_between.ensures n f s)

use Rattle.std.proofs.Common.{ℕ}
use Rattle.rel_reader.specs.declared.known.Known.{Known}
use Rattle.rel_reader.specs.Knowledge.{or_else}
use Rattle.rel_reader.specs.Windows.{Shows}
use Rattle.rel_reader.specs.Steps.{said_between}
use Rattle.rel_reader.proofs.proxy.Proxy.pass_between.Given as goal

abbrev pub invariant-loop-k : goal.invariant-loop-k
invariant-loop-k l = (n : ℕ) (f : ℕ → Known) → Shows l.fn.self n f → Shows l.self n (λ k. or_else (f k) (said_between n l.from l.k k))

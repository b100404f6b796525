use Rattle.std.proofs.Common.{ℕ}
use Rattle.rel_reader.specs.declared.known.Known.{Known}
use Rattle.rel_reader.specs.Knowledge.{or_else}
use Rattle.rel_reader.specs.Windows.{Shows}
use Rattle.rel_reader.specs.Steps.{said_named}
use Rattle.rel_reader.proofs.proxy.Proxy.pass_named.Given as goal

abbrev pub invariant-loop-i : goal.invariant-loop-i
invariant-loop-i l = (n : ℕ) (f : ℕ → Known) → Shows l.fn.self n f → Shows l.self n (λ k. or_else (f k) (said_named n l.set l.i k))

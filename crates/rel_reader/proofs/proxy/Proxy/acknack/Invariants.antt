use Rattle.std.proofs.Common.{◌≡◌, ℕ, ◌+◌, ◌≤◌}
use Rattle.dur_base.specs.NumberSets.{names}
use Rattle.rel_reader.specs.Steps.{missing_upto}
use Rattle.rel_reader.proofs.proxy.Proxy.acknack.Given as goal

abbrev pub invariant-loop-k : goal.invariant-loop-k
invariant-loop-k l = record {
  base : l.set.base ≡ l.base;
  count : l.set.count + l.base ≤ l.k;
  named : (j : ℕ) → names l.set j ≡ missing_upto l.self l.start l.k j;
}

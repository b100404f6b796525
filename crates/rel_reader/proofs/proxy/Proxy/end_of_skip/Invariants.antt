use Rattle.std.proofs.Common.{◌≡◌, ℕ, ◌-◌, ◌^◌, ◌<◌, ◌≤◌}
use Rattle.rel_reader.specs.declared.known.Known.TheVariants.{Irrelevant}
use Rattle.rel_reader.specs.Windows.{known_in}
use Rattle.rel_reader.proofs.proxy.Proxy.end_of_skip.Given as goal

abbrev pub invariant-loop-end : goal.invariant-loop-end
invariant-loop-end l = record {
  range : (l.self.next < l.end) × (l.end ≤ 2 ^ 63);
  low : l.self.next < 2 ^ 63 - 1 → l.end < 2 ^ 63;
  each : (k : ℕ) → l.self.next ≤ k → k < l.end → known_in l.self k ≡ Irrelevant;
}

abbrev pub decreases-loop-end : goal.decreases-loop-end
decreases-loop-end l = l.limit - l.end

use Rattle.std.proofs.Common.{◌≡◌, ℕ, ◌-◌, ◌≤◌}
use Rattle.std.specs.Prelude.{◌&&◌, nat_lt, nat_le}
use Rattle.dur_base.specs.NumberSets.{names, has_bit}
use Rattle.rel_writer.proofs.asked.up_to.Given as goal

-- those of the first i bits
abbrev pub invariant-loop-i : goal.invariant-loop-i
invariant-loop-i l = record {
  base : l.some.base ≡ l.set.base;
  count : l.some.count ≤ l.i;
  named : (k : ℕ)
      → names l.some k
      ≡ ((nat_le l.set.base k
      && (nat_lt (k - l.set.base) l.i && has_bit l.set.words (k - l.set.base))) && nat_le k l.last);
}

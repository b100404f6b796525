use Rattle.std.proofs.Common.{◌≡◌, ◌-◌, ◌≤◌}
use Rattle.rtps_frag.specs.Asking.{digits, is_asked}
use Rattle.rtps_frag.proofs.asks.word.Given as goal

abbrev pub invariant-loop-n : goal.invariant-loop-n
invariant-loop-n l = record { value : l.word ≡ digits (is_asked l.came l.last) l.k l.n; within : l.n ≤ 32 }

abbrev pub decreases-loop-n : goal.decreases-loop-n
decreases-loop-n l = 32 - l.n

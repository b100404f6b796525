use Rattle.std.proofs.Common.{◌≡◌, map, take}
use Rattle.dur_sets.specs.Open.{opened}
use Rattle.dur_sets.proofs.sets.open_sets.Given as goal

abbrev pub invariant-loop-line : goal.invariant-loop-line
invariant-loop-line l = l.sets.items ≡ map (λ line. opened line.held) (take l.line-index l.writers)

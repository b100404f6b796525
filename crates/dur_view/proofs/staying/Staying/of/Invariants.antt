use Rattle.std.proofs.Common.{◌≡◌, ◌+◌, ◌≤◌, ◌++◌, length}
use Rattle.dur_view.specs.Staying.{counts_from, total_from}
use Rattle.dur_view.proofs.staying.Staying.of.Given as goal

abbrev pub invariant-loop-rest : goal.invariant-loop-rest
invariant-loop-rest l = (l.counts ++ counts_from l.count l.rest ≡ counts_from 0 l.fn.stays) × (total_from l.count l.rest ≡ total_from 0 l.fn.stays) × (l.count + length l.rest ≤ length l.fn.stays)

abbrev pub decreases-loop-rest : goal.decreases-loop-rest
decreases-loop-rest l = length l.rest

use Rattle.std.proofs.Common.{◌≡◌, ◌*◌, ◌^◌, ◌≤◌, length, take}
use Rattle.std.specs.Prelude.{◌==◌, if◌then◌else◌, sum_by}
use Rattle.dur_view.specs.History.{Start, ◌▸◌, ◌+>◌, held}
use Rattle.dur_view.proofs.limits.held_in.Given as goal

abbrev pub invariant-loop-line : goal.invariant-loop-line
invariant-loop-line l =
    (l.count ≡ sum_by (λ line. if line.topic == l.topic then length (held ((Start l.start +> l.entries) ▸ l.entry) line.guid) else 0) (take l.line-index l.start.writers))
    × (l.count ≤ l.line-index * 2 ^ 64)

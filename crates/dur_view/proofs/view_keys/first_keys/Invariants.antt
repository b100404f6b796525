use Rattle.std.proofs.Common.{◌≡◌, map, take}
use Rattle.std.specs.Prelude.{filter, ◌==◌}
use Rattle.dur_view.proofs.view_keys.first_keys.Given as goal

abbrev pub invariant-loop-line : goal.invariant-loop-line
invariant-loop-line l = l.keys.items ≡ map (λ line. line.key) (filter (λ line. line.topic == l.topic) (take l.line-index l.start.instances))

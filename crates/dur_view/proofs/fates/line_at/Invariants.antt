use Rattle.std.proofs.Common.{◌≡◌, drop}
use Rattle.std.specs.Prelude.{filter, ◌==◌}
use Rattle.dur_view.specs.Fates.{line_in}
use Rattle.dur_view.proofs.fates.line_at.Given as goal

-- what is looked for is among the lines that are left
abbrev pub invariant-loop-line : goal.invariant-loop-line
invariant-loop-line l = line_in (filter (λ line. line.topic == l.topic) l.start.instances) l.key ≡ line_in (filter (λ line. line.topic == l.topic) (drop l.line-index l.start.instances)) l.key

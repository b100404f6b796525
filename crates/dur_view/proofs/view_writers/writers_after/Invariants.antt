use Rattle.std.proofs.Common.{◌≡◌, map, take}
use Rattle.dur_view.specs.History.{Start, ◌+>◌}
use Rattle.dur_view.specs.View.{line_after}
use Rattle.dur_view.proofs.view_writers.writers_after.Given as goal

abbrev pub invariant-loop-line : goal.invariant-loop-line
invariant-loop-line l = l.lines ≡ map (line_after (Start l.start +> l.entries)) (take l.line-index l.start.writers)

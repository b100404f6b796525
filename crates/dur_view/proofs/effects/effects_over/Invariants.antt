use Rattle.std.proofs.Common.{◌≡◌, take}
use Rattle.dur_view.specs.History.{Start, ◌+>◌, effects}
use Rattle.dur_view.proofs.effects.effects_over.Given as goal

abbrev pub invariant-loop-at : goal.invariant-loop-at
invariant-loop-at l = l.events ≡ effects l.topic (Start l.start +> take l.at l.entries)

use Rattle.std.proofs.Common.{◌≡◌, take}
use Rattle.dur_view.specs.History.{Start, ◌+>◌, held}
use Rattle.dur_view.proofs.effects.held_over.Given as goal

abbrev pub invariant-loop-entry : goal.invariant-loop-entry
invariant-loop-entry l = l.members ≡ held (Start l.start +> take l.entry-index l.entries) l.writer

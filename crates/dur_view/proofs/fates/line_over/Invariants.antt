use Rattle.std.proofs.Common.{◌≡◌, ◌+◌, ◌^◌, ◌<◌, take}
use Rattle.dur_view.specs.Past.{Begin, ◌▹▹◌, part}
use Rattle.dur_view.specs.Lines.{line_in_past}
use Rattle.dur_view.proofs.fates.line_over.Given as goal

abbrev pub invariant-loop-event : goal.invariant-loop-event
invariant-loop-event l = (l.line ≡ line_in_past (Begin (part l.start l.topic) ▹▹ take l.event-index l.events) l.key) × (l.line.changes < 2 ^ 64 + l.event-index)

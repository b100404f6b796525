use Rattle.std.proofs.Common.{◌≡◌, take}
use Rattle.dur_view.specs.Past.{Begin, ◌▹▹◌, part}
use Rattle.dur_view.specs.Fates.{keys}
use Rattle.dur_view.proofs.view_keys.keys_over.Given as goal

abbrev pub invariant-loop-event : goal.invariant-loop-event
invariant-loop-event l = l.keys.items ≡ keys (Begin (part l.start l.topic) ▹▹ take l.event-index l.events)

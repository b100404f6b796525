use Rattle.std.proofs.Common.{◌≡◌, take}
use Rattle.dur_view.specs.Past.{Begin, ◌▹▹◌, part}
use Rattle.dur_view.specs.Fates.{made}
use Rattle.dur_view.specs.Living.{all_made, living_of}
use Rattle.dur_view.proofs.living.living_over.Given as goal

abbrev pub invariant-loop-at : goal.invariant-loop-at
invariant-loop-at l = all_made l.list ≡ living_of (Begin (part l.start l.topic) ▹▹ l.events) l.now (made (Begin (part l.start l.topic) ▹▹ take l.at l.events))

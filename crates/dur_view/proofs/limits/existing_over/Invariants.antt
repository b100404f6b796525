use Rattle.std.proofs.Common.{◌≡◌, not, take}
use Rattle.std.specs.Prelude.{filter}
use Rattle.dur_view.specs.Past.{Begin, ◌▹▹◌, part}
use Rattle.dur_view.specs.Fates.{is_purged}
use Rattle.dur_view.proofs.limits.existing_over.Given as goal

abbrev pub invariant-loop-key : goal.invariant-loop-key
invariant-loop-key l = l.list ≡ filter (λ k. not (is_purged (Begin (part l.start l.topic) ▹▹ l.events) k l.now)) (take l.key-index l.key-items)

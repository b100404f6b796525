use Rattle.std.proofs.Common.{◌≡◌, map, take}
use Rattle.dur_view.specs.Persistent.{is_persistent}
use Rattle.dur_view.proofs.persistent.topics_stay.Given as goal

abbrev pub invariant-loop-topic : goal.invariant-loop-topic
invariant-loop-topic l = l.stays ≡ map is_persistent (take l.topic-index l.topics)

use Rattle.std.proofs.Common.{◌≡◌, take}
use Rattle.std.specs.Prelude.{filter}
use Rattle.dur_view.specs.Persistent.{is_persistent}
use Rattle.dur_journal.proofs.part.topics_of.Given as goal

abbrev pub invariant-loop-topic : goal.invariant-loop-topic
invariant-loop-topic l = l.list ≡ filter is_persistent (take l.topic-index l.plan.topics)

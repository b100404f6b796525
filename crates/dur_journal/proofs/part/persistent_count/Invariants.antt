use Rattle.std.proofs.Common.{◌≡◌, ◌≤◌, length, take}
use Rattle.std.specs.Prelude.{filter}
use Rattle.dur_view.specs.Persistent.{is_persistent}
use Rattle.dur_journal.proofs.part.persistent_count.Given as goal

abbrev pub invariant-loop-topic : goal.invariant-loop-topic
invariant-loop-topic l = record {
  is : l.count ≡ length (filter is_persistent (take l.topic-index l.topics));
  few : l.count ≤ l.topic-index;
}

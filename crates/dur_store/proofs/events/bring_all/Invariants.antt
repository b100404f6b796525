use Rattle.std.proofs.Common.{◌+◌, ◌≤◌, length, map}
use Rattle.std.specs.Prelude.{reverse}
use Rattle.dur_view.specs.Past.{Past}
use Rattle.dur_instances.specs.Stands.{Stands}
use Rattle.dur_sets.specs.Tells.{takes_effect}
use Rattle.dur_store.proofs.Lists.{IsBringing}
use Rattle.dur_store.proofs.events.bring_all.Given as goal

abbrev pub invariant-loop-member : goal.invariant-loop-member
invariant-loop-member l = record {
  stands : (p : Past) → Stands l.fn.topic p → IsBringing l.topic p (map (takes_effect l.moment l.by l.writer) l.fn.members.items) (map (takes_effect l.moment l.by l.writer) (reverse l.members.items));
  early : l.topic.last ≤ l.moment;
  room : length l.members.items ≤ l.topic.room;
  left : l.fn.topic.room + length l.members.items ≤ l.topic.room + length l.fn.members.items;
  spare : l.fn.members.room ≤ l.members.room;
}

abbrev pub decreases-loop-member : goal.decreases-loop-member
decreases-loop-member l = length l.members.items

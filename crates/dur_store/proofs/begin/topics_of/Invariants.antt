use Rattle.std.proofs.Common.{◌≡◌, length}
use Rattle.dur_view.specs.History.{Start}
use Rattle.dur_store.specs.Parts.{AreTopics}
use Rattle.dur_store.proofs.begin.topics_of.Given as goal

abbrev pub invariant-loop-at : goal.invariant-loop-at
invariant-loop-at l = record {
  count : l.at ≡ length l.topics.items;
  topics : AreTopics l.topics.items (Start l.fn.view);
}

use Rattle.dur_view.specs.History.{History}
use Rattle.dur_store.specs.Parts.{AreTopics, AreAll}
use Rattle.dur_store.proofs.whole.parts_of.Given as goal

abbrev pub invariant-loop-at : goal.invariant-loop-at
invariant-loop-at l = (h : History) → AreTopics l.topics h → AreAll l.at h l.moment l.instances l.kept

use Rattle.std.specs.List.{AllByRecursion}
use Rattle.dur_view.specs.History.{History, HasShortNumber, AllFollow}
use Rattle.dur_store.specs.Keeps.{Keeps}
use Rattle.dur_journal.proofs.Restored.{IsRestoring}
use Rattle.dur_journal.proofs.part.restored.Given as goal

abbrev pub invariant-loop-entry : goal.invariant-loop-entry
invariant-loop-entry l = record {
  keeps : (h : History) → Keeps l.fn.store h → AllFollow h l.fn.entries → IsRestoring l.store h l.fn.entries l.entry-iterator.rest.items;
  short : AllByRecursion HasShortNumber l.entry-iterator.rest.items;
}

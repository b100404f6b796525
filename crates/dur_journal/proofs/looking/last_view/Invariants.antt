use Rattle.std.proofs.Common.{◌≡◌}
use Rattle.std.specs.List.{AllByRecursion}
use Rattle.dur_view.specs.History.{HasShortNumber, ◌+>◌}
use Rattle.dur_journal.specs.Reading.{history_of}
use Rattle.dur_journal.proofs.looking.last_view.Given as goal

abbrev pub invariant-loop-entry : goal.invariant-loop-entry
invariant-loop-entry l = record {
  joins : l.history +> l.entry-iterator.rest.items ≡ history_of l.fn.read;
  short : AllByRecursion HasShortNumber l.entry-iterator.rest.items;
}

use Rattle.std.proofs.Common.{◌≡◌, ℕ, ◌<◌, Some, length, get_or}
use Rattle.std.specs.Prelude.{slice_get}
use Rattle.dur_store.specs.declared.writer.Writer.{Writer}
use Rattle.dur_store.proofs.room.needed_of.Given as goal

abbrev pub invariant-loop-writer : goal.invariant-loop-writer
invariant-loop-writer l = record {
  count : length l.needed.items ≡ l.topics;
  needed : (i : ℕ) (w : Writer) → i < l.writer-index → slice_get l.writers i ≡ Some w → w.topic < l.topics → length w.held.items < get_or l.needed.items w.topic 0;
}

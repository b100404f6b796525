use Rattle.std.proofs.Common.{◌≡◌, ℕ, ◌<◌, Some, map}
use Rattle.std.specs.Prelude.{slice_get}
use Rattle.dur_store.specs.declared.writer.Writer.{Writer}
use Rattle.dur_store.specs.Parts.{line_of}
use Rattle.dur_store.proofs.room.spare_all.Given as goal

abbrev pub invariant-loop-at : goal.invariant-loop-at
invariant-loop-at l = record {
  lines : map line_of l.writers.items ≡ map line_of l.fn.writers.items;
  room : (i : ℕ) (w : Writer) → i < l.at → slice_get l.writers.items i ≡ Some w → 0 < w.held.room;
}

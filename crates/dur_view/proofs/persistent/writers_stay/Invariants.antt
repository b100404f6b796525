use Rattle.std.proofs.Common.{◌≡◌, map, take}
use Rattle.dur_view.specs.Persistent.{writer_stays}
use Rattle.dur_view.proofs.persistent.writers_stay.Given as goal

abbrev pub invariant-loop-writer : goal.invariant-loop-writer
invariant-loop-writer l = l.stays ≡ map (writer_stays l.view) (take l.writer-index l.view.writers)

use Rattle.std.proofs.Common.{◌≡◌, map, take}
use Rattle.std.specs.Prelude.{filter}
use Rattle.dur_view.specs.Persistent.{writer_among, writer_stays}
use Rattle.dur_view.proofs.persistent.writers_of.Given as goal

abbrev pub invariant-loop-writer : goal.invariant-loop-writer
invariant-loop-writer l = l.list ≡ map (writer_among l.view) (filter (writer_stays l.view) (take l.writer-index l.view.writers))

use Rattle.std.proofs.Common.{arith}
use Rattle.dur_store.proofs.Places.{lines_indexed}
use Rattle.dur_store.proofs.index.index_of.Goals as goal

pub loop-place-preserved : goal.loop-place-preserved
loop-place-preserved c =
    lines_indexed _ _ _ _ c.index-lines-place.result (omega arith) c.index-lines-place.is
    c.loop-place.invariant c.in_ok-note_place.ensures

use Rattle.std.proofs.Common.{take}
use Rattle.dur_store.specs.Places.{guids, found, IsIndex}
use Rattle.dur_store.proofs.index.index_of.Given as goal

abbrev pub invariant-loop-place : goal.invariant-loop-place
invariant-loop-place l = IsIndex (found l.index) (guids (take l.place l.lines))

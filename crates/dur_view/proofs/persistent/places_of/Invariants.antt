use Rattle.std.proofs.Common.{◌≡◌, map, take}
use Rattle.dur_view.specs.Persistent.{place_among, writer_stays}
use Rattle.dur_view.proofs.persistent.places_of.Given as goal

abbrev pub invariant-loop-place : goal.invariant-loop-place
invariant-loop-place l = l.list ≡ map (place_among (writer_stays l.view) l.view.writers) (take l.place-index l.places)

use Rattle.std.proofs.Common.{◌≡◌, take}
use Rattle.dur_instances.specs.Layout.{left_of}
use Rattle.dur_instances.specs.Places.{kept_in}
use Rattle.dur_instances.specs.Listing.{tallies_of}
use Rattle.dur_instances.proofs.tallies.tallies_over.Given as goal

abbrev pub invariant-loop-place : goal.invariant-loop-place
invariant-loop-place l = l.tallies.items ≡ tallies_of l.cells (left_of l.cells l.longest l.now (kept_in (take l.place-index l.places)))

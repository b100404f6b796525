use Rattle.std.proofs.Common.{◌≡◌, [], map, take}
use Rattle.dur_instances.specs.Listing.{tally_of}
use Rattle.dur_instances.proofs.tallies.blank.Given as goal

abbrev pub invariant-loop : goal.invariant-loop
invariant-loop l = l.tallies.items ≡ map (tally_of l.cells []) (take l.index l.cells)

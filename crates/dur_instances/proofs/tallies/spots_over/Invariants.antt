use Rattle.std.proofs.Common.{◌≡◌, ◌++◌, ◌≤◌, drop}
use Rattle.dur_instances.specs.Listing.{spots_of}
use Rattle.dur_instances.proofs.tallies.spots_over.Given as goal

-- what is counted, and what is left to count, is all
abbrev pub invariant-loop-cell : goal.invariant-loop-cell
invariant-loop-cell l = record {
  all : spots_of l.longest l.now 0 l.cells ≡ l.spots.items ++ spots_of l.longest l.now l.spot (drop l.cell-index l.cells);
  bound : l.spot ≤ l.cell-index;
}

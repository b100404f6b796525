use Rattle.std.proofs.Common.{◌≡◌, ◌++◌, map, take, drop}
use Rattle.std.specs.Prelude.{vec_len, vec_capacity}
use Rattle.dur_instances.specs.Places.{thinned}
use Rattle.dur_instances.proofs.links.sweep.Given as goal

abbrev pub invariant-loop-at : goal.invariant-loop-at
invariant-loop-at l = record {
  items : l.places.items ≡ map (thinned l.cells l.longest l.now) (take l.at l.initial.places.items) ++ drop l.at l.initial.places.items;
  len : vec_len l.places ≡ vec_len l.initial.places;
  capacity : vec_capacity l.places ≡ vec_capacity l.initial.places;
}

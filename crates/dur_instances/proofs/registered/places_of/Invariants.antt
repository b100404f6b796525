use Rattle.std.proofs.Common.{◌≡◌, ◌++◌, ◌-◌, ◌≤◌, length, drop}
use Rattle.dur_instances.specs.Layout.{places}
use Rattle.dur_instances.proofs.RegLists.{first_one, NotAbove}
use Rattle.dur_instances.proofs.registered.places_of.Given as goal

-- what is listed, and what is left to list, is all
abbrev pub invariant-loop-key : goal.invariant-loop-key
invariant-loop-key l = record {
  all : places l.list l.key ≡ l.places ++ places (drop l.at l.list) l.key;
  bound : l.at ≤ length l.list;
  after : NotAbove (first_one l.key) l.list l.at;
}

abbrev pub decreases-loop-key : goal.decreases-loop-key
decreases-loop-key l = length l.list - l.at

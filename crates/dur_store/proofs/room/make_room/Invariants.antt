use Rattle.std.proofs.Common.{◌≡◌, ℕ, ◌<◌, ◌≤◌, Some, get_or}
use Rattle.std.specs.Prelude.{slice_get}
use Rattle.dur_instances.specs.Trimmed.{Trimmed}
use Rattle.dur_store.specs.Spare.{GotRoom}
use Rattle.dur_store.proofs.room.make_room.Given as goal

abbrev pub invariant-loop-at : goal.invariant-loop-at
invariant-loop-at l = record {
  rest : GotRoom l.fn.topics.items l.topics.items;
  room : (t : ℕ) (x : Trimmed) → t < l.at → slice_get l.topics.items t ≡ Some x → get_or l.needed t 0 ≤ x.room;
}

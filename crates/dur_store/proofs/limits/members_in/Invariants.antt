use Rattle.std.proofs.Common.{◌≡◌, ◌*◌, ◌^◌, ◌≤◌, take}
use Rattle.dur_store.specs.Limits.{members_in}
use Rattle.dur_store.proofs.limits.members_in.Given as goal

abbrev pub invariant-loop-writer : goal.invariant-loop-writer
invariant-loop-writer l = record {
  members : l.count ≡ members_in l.topic (take l.writer-index l.writers);
  bound : l.count ≤ l.writer-index * 2 ^ 64;
}

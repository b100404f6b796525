use Rattle.std.proofs.Common.{◌≡◌, take}
use Rattle.dur_store.specs.Members.{members_of}
use Rattle.dur_store.proofs.members.listed.Given as goal

abbrev pub invariant-loop-at : goal.invariant-loop-at
invariant-loop-at l = l.members ≡ members_of (take l.at l.samples) (take l.at l.taken)

use Rattle.std.proofs.Common.{◌≡◌, ◌++◌}
use Rattle.dur_store.proofs.members.Members.of_list.Given as goal

abbrev pub invariant-loop-member : goal.invariant-loop-member
invariant-loop-member l = l.members.items ++ l.member-iterator.rest.items ≡ l.fn.list

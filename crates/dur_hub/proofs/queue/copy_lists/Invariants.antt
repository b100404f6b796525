use Rattle.std.proofs.Common.{◌≡◌, ◌++◌, take}
use Rattle.dur_hub.specs.Queues.{joined}
use Rattle.dur_hub.proofs.queue.copy_lists.Given as goal

abbrev pub invariant-loop-list : goal.invariant-loop-list
invariant-loop-list l = l.entries.items ≡ l.fn.entries.items ++ joined (take l.list-index l.lists)

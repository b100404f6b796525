use Rattle.std.proofs.Common.{◌++◌, ◌∙◌, ap, arith, take}
use Rattle.dur_hub.specs.Queues.{joined}
use Rattle.dur_hub.proofs.Queueing.{joined_next}
use Rattle.dur_hub.proofs.queue.copy_lists.Goals as goal

pub loop-list-preserved : goal.loop-list-preserved
loop-list-preserved c =
    joined_next c.args.lists.now c.loop-list.list-index c.list-item.result c.args.entries.now.items
    _ (omega arith) c.list-item.is
    (c.in_ok-copy_into.ensures ∙ ap (λ k. k ++ c.as_slice.result.now) c.loop-list.invariant ∙ ap (λ k. (c.args.entries.now.items ++ joined (take c.loop-list.list-index c.args.lists.now)) ++ k) c.as_slice.ensures)

use Rattle.dur_hub.proofs.Queueing.{pending_all}
use Rattle.dur_hub.proofs.queue.Queue.pending.Goals as goal

pub returns : goal.returns
returns c =
    pending_all c.as_slices.result.0.now c.as_slices.result.1.now _ _ _ _ _ _ _
    c.as_slices.ensures.items c.new-entries.ensures.items c.in_ok-copy_lists.ensures
    c.in_ok-copy_lists-2.ensures c.in_ok-copy_into.ensures c.as_slice.ensures.value

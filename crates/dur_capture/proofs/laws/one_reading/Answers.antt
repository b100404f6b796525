use Rattle.std.proofs.Common.{◌++◌, ◌∷◌, []}
use Rattle.dur_capture.specs.Front.{record_of}
use Rattle.dur_capture.proofs.OneReading.{one_seen, reads_once}
use Rattle.dur_capture.proofs.laws.one_reading.Goals as goal

pub loop-head-preserved : goal.loop-head-preserved
loop-head-preserved c = record {
  records = c.loop-head.invariant.records ++ record_of c.in-Record.head c.loop-head.left.now ∷ [];
  feeds = one_seen _ _ _ _ c.in-Record.head _ c.loop-head.invariant.feeds (rw c.in-Record.is at c.look_at.ensures) c.split_at.ensures.back;
}

pub returns : goal.returns
returns c = reads_once c.look_at.result _ _ _ _ c.loop-head.invariant.feeds c.look_at.ensures c.in_default.not-Record

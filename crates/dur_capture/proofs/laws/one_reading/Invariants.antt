use Rattle.std.proofs.Common.{List, length}
use Rattle.std.specs.Prelude.{None}
use Rattle.dur_capture.specs.declared.record.Record.{Record}
use Rattle.dur_capture.specs.Whole.{Feeds}
use Rattle.dur_capture.proofs.laws.one_reading.Given as goal

abbrev pub invariant-loop-head : goal.invariant-loop-head
invariant-loop-head l = record {
  records : List Record;
  feeds : Feeds l.before l.octets records (record { before = l.before; taken = l.taken; left = l.left; fault = None });
}

abbrev pub decreases-loop-head : goal.decreases-loop-head
decreases-loop-head l = length l.left

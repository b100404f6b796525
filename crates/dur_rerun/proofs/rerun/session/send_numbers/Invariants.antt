use Rattle.std.proofs.Common.{◌≤◌}
use Rattle.dur_rerun.specs.Rerun.Sending.{Stays}
use Rattle.dur_rerun.specs.Rerun.Steps.{AreDataOf}
use Rattle.dur_rerun.proofs.SendsOut.{SoFar}
use Rattle.dur_rerun.proofs.rerun.session.send_numbers.Given as goal

abbrev pub invariant-loop-i : goal.invariant-loop-i
invariant-loop-i g l = record {
  goes : SoFar g.R.Machine.tells l.fn.journal l.journal (g.R.Machine.world l.fn.journal.disk) (g.R.Machine.world l.journal.disk)
      l.head.moment l.head.port (AreDataOf l.session l.numbers l.i);
  stays : Stays g.R.Machine.tells l.fn.journal l.journal (g.R.Machine.world l.journal.disk)
      (g.R.Machine.disk_faults l.fn.journal.disk) (g.R.Machine.disk_faults l.journal.disk);
  later : g.R.Machine.sink_faults l.fn.journal.disk ≤ g.R.Machine.sink_faults l.journal.disk;
}

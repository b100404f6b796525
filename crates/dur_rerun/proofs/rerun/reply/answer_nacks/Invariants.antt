use Rattle.std.proofs.Common.{◌≤◌, take}
use Rattle.dur_rerun.specs.Rerun.Sending.{Stays}
use Rattle.dur_rerun.specs.Rerun.Steps.{AreReplied}
use Rattle.dur_rerun.proofs.SendsOut.{SoFar}
use Rattle.dur_rerun.proofs.rerun.reply.answer_nacks.Given as goal

-- the first ones are replied
abbrev pub invariant-loop-at : goal.invariant-loop-at
invariant-loop-at g l = record {
  goes : SoFar g.R.Machine.tells l.fn.journal l.journal (g.R.Machine.world l.fn.journal.disk) (g.R.Machine.world l.journal.disk)
      l.head.moment l.head.port (AreReplied l.plan l.own (take l.at l.nacks) l.fn.hub l.fn.replays.begun.items l.hub l.replays.begun.items);
  stays : Stays g.R.Machine.tells l.fn.journal l.journal (g.R.Machine.world l.journal.disk)
      (g.R.Machine.disk_faults l.fn.journal.disk) (g.R.Machine.disk_faults l.journal.disk);
  later : g.R.Machine.sink_faults l.fn.journal.disk ≤ g.R.Machine.sink_faults l.journal.disk;
}

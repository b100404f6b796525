use Rattle.std.proofs.Common.{◌≡◌, ◌≤◌, length}
use Rattle.dur_rerun.proofs.SaysThrough.{Saying}
use Rattle.dur_rerun.proofs.rerun.saying.say_through.Given as goal

abbrev pub invariant-loop-rest : goal.invariant-loop-rest
invariant-loop-rest g l = record {
  saying : g.R.Machine.tells → Saying l.fn.journal l.journal (g.R.Machine.world l.fn.journal.disk) (g.R.Machine.world l.journal.disk) l.fn.text l.rest;
  same : l.journal ≡ record l.fn.journal { disk = l.journal.disk };
  within : length l.rest ≤ length l.fn.text;
  later : g.R.Machine.sink_faults l.fn.journal.disk ≤ g.R.Machine.sink_faults l.journal.disk;
  keeps : g.R.Machine.disk_faults l.journal.disk ≡ g.R.Machine.disk_faults l.fn.journal.disk;
}

abbrev pub decreases-loop-rest : goal.decreases-loop-rest
decreases-loop-rest g l = length l.rest

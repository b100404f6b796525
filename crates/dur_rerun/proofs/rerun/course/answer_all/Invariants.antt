use Rattle.std.proofs.Common.{◌≤◌, ◌+◌, ◌-◌, ◌^◌, ◌++◌, ℕ, List, []}
use Rattle.std.specs.Io.KnownBytes.{Consumes}
use Rattle.dur_capture.specs.declared.record.Record.{Record}
use Rattle.dur_capture.specs.Whole.{Feeds}
use Rattle.dur_hub.specs.Runs.{Run}
use Rattle.dur_rerun.specs.Rerun.Services.{Serves, AnsweredAll}
use Rattle.dur_rerun.proofs.rerun.course.answer_all.Given as goal

-- each record that was handed out was answered
abbrev pub invariant-records : goal.invariant-records
invariant-records g l = record {
  seen : List ℕ;
  consumed : Consumes (g.S.Source.left l.fn.input) (g.S.Source.left l.input) seen;
  records : List Record;
  feeds : Feeds l.fn.feed.before (l.fn.feed.left ++ seen) records l.feed;
  so_far : (begun : Run) → Serves begun [] l.fn.service l.fn.journal.position
      → AnsweredAll g.R.Machine.tells l.fn.service.own begun records l.fn.journal l.journal l.service (g.R.Machine.world l.fn.journal.disk) (g.R.Machine.world l.journal.disk);
  reads : g.S.Source.faults l.fn.input ≤ g.S.Source.faults l.input;
  writes : g.R.Machine.sink_faults l.fn.journal.disk ≤ g.R.Machine.sink_faults l.journal.disk;
  disks : g.R.Machine.disk_faults l.fn.journal.disk ≤ g.R.Machine.disk_faults l.journal.disk;
}

abbrev pub decreases-records : goal.decreases-records
decreases-records g l = 2 ^ 40 - (l.feed.before + l.feed.taken)

use Rattle.std.proofs.Common.{◌≡◌, ◌≤◌, List}
use Rattle.dur_hub.specs.declared.event.Event.{Event}
use Rattle.dur_hub.specs.Runs.{Run}
use Rattle.dur_rerun.specs.Rerun.Stores.{IsSettled, StoringSoFar}
use Rattle.dur_rerun.proofs.BatchRuns.{waiting}
use Rattle.dur_rerun.proofs.rerun.storing.store_all.Given as goal

-- each batch so far was stored and marked
abbrev pub invariant-batches : goal.invariant-batches
invariant-batches g l = record {
  so_far : (begun : Run) (log : List Event) → IsSettled begun log l.fn.hub l.fn.journal.position
      → StoringSoFar g.R.Machine.tells begun log l.fn.journal l.journal l.hub (g.R.Machine.world l.fn.journal.disk) (g.R.Machine.world l.journal.disk);
  later : g.R.Machine.disk_faults l.fn.journal.disk ≤ g.R.Machine.disk_faults l.journal.disk;
  keeps : g.R.Machine.sink_faults l.journal.disk ≡ g.R.Machine.sink_faults l.fn.journal.disk;
}

abbrev pub decreases-batches : goal.decreases-batches
decreases-batches g l = waiting l.hub

use Rattle.std.proofs.Common.{◌≤◌, ◌+◌, ◌-◌, ◌^◌, ◌++◌, ℕ, List, []}
use Rattle.std.specs.Io.KnownBytes.{Consumes}
use Rattle.dur_capture.specs.declared.record.Record.{Record}
use Rattle.dur_capture.specs.Whole.{Feeds}
use Rattle.dur_hub.specs.declared.event.Event.{Event}
use Rattle.dur_hub.specs.Runs.{Run}
use Rattle.dur_hub.specs.Hubs.{Stands}
use Rattle.dur_rerun.specs.Admission.{BringAll}
use Rattle.dur_rerun.proofs.list.history.admit_rest.Given as goal

-- the hub was called for each record that was handed out
abbrev pub invariant-records : goal.invariant-records
invariant-records g l = record {
  seen : List ℕ;
  consumed : Consumes (g.S.Source.left l.fn.input) (g.S.Source.left l.input) seen;
  records : List Record;
  feeds : Feeds l.fn.feed.before (l.fn.feed.left ++ seen) records l.feed;
  calls : List Event;
  brings : BringAll l.own records calls;
  adds : (start : Run) → Stands start [] l.fn.hub → Stands start calls l.hub;
  later : g.S.Source.faults l.fn.input ≤ g.S.Source.faults l.input;
}

abbrev pub decreases-records : goal.decreases-records
decreases-records g l = 2 ^ 40 - (l.feed.before + l.feed.taken)

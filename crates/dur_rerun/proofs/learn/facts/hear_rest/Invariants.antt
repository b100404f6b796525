use Rattle.std.proofs.Common.{◌≡◌, ◌≤◌, ◌+◌, ◌-◌, ◌^◌, ◌++◌, ℕ, List}
use Rattle.std.specs.Io.KnownBytes.{Consumes}
use Rattle.dur_capture.specs.declared.record.Record.{Record}
use Rattle.dur_capture.specs.Whole.{Feeds}
use Rattle.rtps_discovery.specs.Learnt.{HeardFact}
use Rattle.dur_rerun.specs.Learn.Facts.{Tells, HearsMore}
use Rattle.dur_rerun.proofs.Learning.{last_from}
use Rattle.dur_rerun.proofs.learn.facts.hear_rest.Given as goal

-- the directory heard each record that was handed out
abbrev pub invariant-records : goal.invariant-records
invariant-records g l = record {
  seen : List ℕ;
  consumed : Consumes (g.S.Source.left l.fn.input) (g.S.Source.left l.input) seen;
  records : List Record;
  feeds : Feeds l.fn.feed.before (l.fn.feed.left ++ seen) records l.feed;
  facts : List HeardFact;
  tells : Tells l.own 0 records facts;
  more : HearsMore l.plan l.fn.directory facts l.directory;
  last_is : l.last ≡ last_from 0 records;
  later : g.S.Source.faults l.fn.input ≤ g.S.Source.faults l.input;
}

abbrev pub decreases-records : goal.decreases-records
decreases-records g l = 2 ^ 40 - (l.feed.before + l.feed.taken)

use Rattle.std.proofs.Common.{◌≡◌, ◌-◌, [], length}
use Rattle.dur_record.specs.Grammar.{items}
use Rattle.dur_record.specs.Run.{run}
use Rattle.dur_record.specs.Index.{IsIndexed}
use Rattle.dur_record.specs.Views.{writer_row}
use Rattle.dur_record.proofs.field.Text.writers.Given as goal

abbrev pub invariant-loop-place : goal.invariant-loop-place
invariant-loop-place l = record {
  reads : run (items l.count (writer_row l.version l.last l.topics) []) l.fn.self.rest ≡ run (items (l.count - l.place) (writer_row l.version l.last l.topics) l.writers) l.self.rest;
  indexed : IsIndexed l.guids l.writers;
  placed : length l.writers ≡ l.place;
}

use Rattle.std.proofs.Common.{◌≡◌, ◌-◌, [], length}
use Rattle.dur_record.specs.Grammar.{items}
use Rattle.dur_record.specs.Run.{run}
use Rattle.dur_record.specs.Index.{IsCounted, IsNumbered}
use Rattle.dur_record.specs.Views.{kept_row}
use Rattle.dur_record.proofs.field.Text.kept_changes.Given as goal

abbrev pub invariant-loop-index : goal.invariant-loop-index
invariant-loop-index l = record {
  reads : run (items l.count (kept_row l.version l.last l.writers l.instances) []) l.fn.self.rest ≡ run (items (l.count - l.index) (kept_row l.version l.last l.writers l.instances) l.kept) l.self.rest;
  counted : IsCounted l.ordinals.items l.kept;
  count : length l.ordinals.items ≡ length l.instances;
  numbered : IsNumbered l.numbers l.kept;
}

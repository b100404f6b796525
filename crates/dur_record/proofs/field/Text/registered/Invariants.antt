use Rattle.std.proofs.Common.{◌≡◌, ◌-◌, []}
use Rattle.dur_record.specs.Grammar.{items}
use Rattle.dur_record.specs.Run.{run}
use Rattle.dur_record.specs.Views.{place_row}
use Rattle.dur_record.proofs.field.Text.registered.Given as goal

abbrev pub invariant-loop-index : goal.invariant-loop-index
invariant-loop-index l = run (items l.count (place_row l.writers l.topic) []) l.fn.self.rest ≡ run (items (l.count - l.index) (place_row l.writers l.topic) l.places) l.self.rest

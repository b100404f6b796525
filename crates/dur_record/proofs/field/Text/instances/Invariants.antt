use Rattle.std.proofs.Common.{◌≡◌, ◌-◌, []}
use Rattle.dur_record.specs.Grammar.{items}
use Rattle.dur_record.specs.Run.{run}
use Rattle.dur_record.specs.Views.{instance_row}
use Rattle.dur_record.proofs.field.Text.instances.Given as goal

abbrev pub invariant-loop-place : goal.invariant-loop-place
invariant-loop-place l = run (items l.count (instance_row l.last l.topics l.writers) []) l.fn.self.rest ≡ run (items (l.count - l.place) (instance_row l.last l.topics l.writers) l.instances) l.self.rest

use Rattle.std.proofs.Common.{◌≡◌, ◌-◌, []}
use Rattle.dur_record.specs.Grammar.{items}
use Rattle.dur_record.specs.Run.{run}
use Rattle.dur_record.specs.Views.{held_row}
use Rattle.dur_record.proofs.field.Text.members.Given as goal

abbrev pub invariant-loop-place : goal.invariant-loop-place
invariant-loop-place l = run (items l.set.count (held_row l.set.version l.set.last l.set.key l.set.next l.set.count) []) l.fn.self.rest ≡ run (items (l.set.count - l.place) (held_row l.set.version l.set.last l.set.key l.set.next l.set.count) l.held) l.self.rest

use Rattle.std.proofs.Common.{◌≡◌, ◌-◌, []}
use Rattle.dur_record.specs.Grammar.{items}
use Rattle.dur_record.specs.Run.{run}
use Rattle.dur_record.specs.Views.{topic_row}
use Rattle.dur_record.proofs.field.Text.topics.Given as goal

abbrev pub invariant-loop-place : goal.invariant-loop-place
invariant-loop-place l = run (items l.count topic_row []) l.fn.self.rest ≡ run (items (l.count - l.place) topic_row l.topics) l.self.rest

use Rattle.std.proofs.Common.{◌≡◌, map, take}
use Rattle.std.specs.Prelude.{filter}
use Rattle.dur_view.specs.Persistent.{is_persistent, passes_at, writer_line_among}
use Rattle.dur_journal.proofs.part.writers_of.Given as goal

abbrev pub invariant-loop-writer : goal.invariant-loop-writer
invariant-loop-writer l =
    l.list ≡ map (writer_line_among l.plan) (filter (λ w. passes_at is_persistent l.plan.topics w.topic) (take l.writer-index l.plan.writers))

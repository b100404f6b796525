use Rattle.std.proofs.Common.{◌≡◌, map, take}
use Rattle.std.specs.Prelude.{filter}
use Rattle.dur_view.specs.Persistent.{is_persistent, passes_at, reader_line_among}
use Rattle.dur_journal.proofs.part.readers_of.Given as goal

abbrev pub invariant-loop-reader : goal.invariant-loop-reader
invariant-loop-reader l =
    l.list ≡ map (reader_line_among l.plan) (filter (λ r. passes_at is_persistent l.plan.topics r.topic) (take l.reader-index l.plan.readers))

use Rattle.std.proofs.Common.{None}
use Rattle.dur_record.proofs.Answering.{answers_entries}
use Rattle.dur_record.proofs.entries.read_entries.Goals as goal

pub returns : goal.returns
returns c =
    answers_entries _ None _ _ (c.all_entries.ensures.ok None c.none-past.ensures)
    (c.all_entries.ensures.err None c.none-past.ensures)

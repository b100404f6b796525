use Rattle.std.proofs.Common.{Ok, Err, refl}
use Rattle.dur_journal.proofs.TextReadings.{entries_read, entries_unread}
use Rattle.dur_journal.proofs.reading.entries_of_text.Goals as goal

pub returns-in-Ok-clause-ok : goal.returns-in-Ok-clause-ok
returns-in-Ok-clause-ok c h is = (entries_read c.args.version h _ _ (Ok c.in-Ok.entries) _ (c.in-Ok.ensures h is) refl).0

pub returns-in-Err-clause-err : goal.returns-in-Err-clause-err
returns-in-Err-clause-err c h is = rw c.unread_of.ensures (entries_unread c.args.version h _ _ (Err c.in-Err.fault) _ (c.in-Err.ensures h is) refl).0

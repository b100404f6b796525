use Rattle.dur_journal.proofs.News.{answers_if, prepared_if}
use Rattle.dur_journal.proofs.journal.prepare.Goals as goal

pub returns-in-Ok-clause-ok : goal.returns-in-Ok-clause-ok
returns-in-Ok-clause-ok g c told = prepared_if _ _ _ c.in-Ok.loaded c.render.result (c.settle.ensures.same told) (c.in-Ok.ensures.ok told) c.in-Ok.ensures.kept c.render.ensures.ok

pub returns-in-Ok-clause-err : goal.returns-in-Ok-clause-err
returns-in-Ok-clause-err g c told = answers_if _ _ _ c.in-Ok.loaded c.render.result (c.settle.ensures.same told) (c.in-Ok.ensures.ok told) c.render.ensures.err

use Rattle.std.proofs.Common.{◌∙◌, ap}
use Rattle.rel_writer.specs.LateReaders.{read_of}
use Rattle.rel_writer.proofs.Steps.{told_data}
use Rattle.rel_writer.proofs.late.LateReader.tell.Goals as goal

pub returns-in-Data-clause-told : goal.returns-in-Data-clause-told
returns-in-Data-clause-told c = λ l st.
    rw c.in-Data.is
    (told_data c.tell_data.new.self l c.in-Data.writer c.in-Data.reader c.in-Data.number
    c.in-Data.raw c.read_of-read.result
    (c.read_of-read.ensures ∙ ap (λ i. read_of i c.in-Data.raw) st.writer)
    (c.tell_data.ensures.told l st))

pub returns-in-Beat-clause-told : goal.returns-in-Beat-clause-told
returns-in-Beat-clause-told c =
    λ l st. rw c.in-Beat.is (c.tell_beat.ensures.told l c.in-Beat.reader c.in-Beat.is_final st)

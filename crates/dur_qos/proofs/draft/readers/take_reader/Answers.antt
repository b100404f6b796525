use Rattle.std.proofs.Common.{List, refl, ap}
use Rattle.dur_qos.specs.declared.plan.ReaderLine.{ReaderLine}
use Rattle.dur_qos.proofs.Maps.{reader_added}
use Rattle.dur_qos.proofs.draft.readers.take_reader.Goals as goal

pub returns-in-Ok-push-clause-indexed : goal.returns-in-Ok-push-clause-indexed
returns-in-Ok-push-clause-indexed c =
    let w : ReaderLine = record { guid = c.args.guid; topic = c.in-Ok.topic; kind = c.args.kind } in
    reader_added c.args.draft.now _ w c.guid.inside.0 c.requires c.in-Ok.ensures.room c.guid.view_is c.in-Ok-note_guid.ensures
    (ap (λ (ws : List ReaderLine). record c.args.draft.now.plan { readers = ws }) c.in-Ok-push.ensures.ok) refl refl

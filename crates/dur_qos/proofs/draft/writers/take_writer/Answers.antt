use Rattle.std.proofs.Common.{List, refl, ap}
use Rattle.dur_qos.specs.declared.plan.WriterLine.{WriterLine}
use Rattle.dur_qos.proofs.Maps.{writer_added}
use Rattle.dur_qos.proofs.draft.writers.take_writer.Goals as goal

pub returns-in-Ok-push-clause-indexed : goal.returns-in-Ok-push-clause-indexed
returns-in-Ok-push-clause-indexed c =
    let w : WriterLine = record { guid = c.args.guid; topic = c.in-Ok.topic; lease = c.args.lease } in
    writer_added c.args.draft.now _ w c.guid.inside.0 c.requires c.in-Ok.ensures.room c.guid.view_is c.in-Ok-note_guid.ensures
    (ap (λ (ws : List WriterLine). record c.args.draft.now.plan { writers = ws }) c.in-Ok-push.ensures.ok) refl refl

use Rattle.std.proofs.Common.{List, refl, ap}
use Rattle.dur_qos.specs.declared.plan.Topic.{Topic}
use Rattle.dur_qos.proofs.Maps.{topic_added}
use Rattle.dur_qos.proofs.draft.topics.take_topic.Goals as goal

pub returns-in-Ok-push-clause-indexed : goal.returns-in-Ok-push-clause-indexed
returns-in-Ok-push-clause-indexed c =
    let e = c.in-Ok.ensures.ok in
    topic_added c.args.draft.now _ c.args.topic c.as_slice.result.now c.in-Ok.place c.requires e.2 e.0 e.1 c.as_slice.ensures.value c.in-Ok-note_name.ensures
    (ap (λ (ts : List Topic). record c.args.draft.now.plan { topics = ts }) c.in-Ok-push.ensures.ok) refl refl

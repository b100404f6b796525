-- What a hub may be opened with.
use Rattle.std.specs.Prelude.{◌≡◌, ◌≤◌, true, Some, All, Contains, length, unwrap_or, slice_get}
use Rattle.dur_qos.specs.Good.{GoodPlan}
use Rattle.dur_qos.specs.declared.plan.Plan.{Plan}
use Rattle.dur_qos.specs.declared.plan.WriterLine.{WriterLine}
use Rattle.dur_view.specs.declared.data.KeptWriter.{KeptWriter}
use Rattle.dur_view.specs.declared.data.View.{View}
use Rattle.dur_view.specs.Words.{stands, topic_of, writer_line}
use Rattle.dur_view.specs.Past.{no_topic}
use Rattle.dur_view.specs.Full.{full}
use Rattle.dur_view.specs.IsSound.{IsSound}
use Rattle.dur_hub.specs.Telling.{topic_in}

-- a declared writer that the view keeps has one and the same topic in both
abbrev pub HasOneTopic : Plan → View → WriterLine → Type 0
HasOneTopic plan v w =
    (line : KeptWriter) → writer_line v.writers w.guid ≡ Some line
    → slice_get v.topics line.topic ≡ slice_get plan.topics w.topic

-- The plan is good and the view sound; each topic of the view stands in the plan with the same settings, and the plan declares
-- none of its writers under another topic. With the plan's writers it has no more than a view may have.
pub record MayOpen (p : Plan) (v : View) : Type 0 where
  pub plan : GoodPlan p
  pub view : IsSound v
  pub topics : All (Contains p.topics) v.topics
  pub writers : All (HasOneTopic p v) p.writers
  pub count : length (full p v).writers ≤ 67108864

-- a writer of the plan stands in the view, in the topic that the plan says
pub record WriterStands (plan : Plan) (v : View) (w : WriterLine) : Type 0 where
  pub stands : stands v w.guid ≡ true
  pub topic : unwrap_or (slice_get v.topics (topic_of v w.guid)) no_topic ≡ topic_in plan w.topic

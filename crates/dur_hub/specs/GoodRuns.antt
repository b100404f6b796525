-- What holds of a run wherever a legal list of calls has led.
use Rattle.std.specs.Prelude.{◌≡◌, ◌≢◌, ◌≤◌, true, Option, Some, None, List, [], ◌∷◌, length, unwrap_or, slice_get}
use Rattle.dur_base.specs.Goodness.{IsGood}
use Rattle.dur_base.specs.declared.sample.Sample.{Sample}
use Rattle.dur_qos.specs.declared.plan.Plan.{Plan}
use Rattle.dur_view.specs.Identities.{Guid}
use Rattle.dur_view.specs.declared.data.View.{View}
use Rattle.dur_view.specs.Words.{stands, topic_of, is_key_of}
use Rattle.dur_view.specs.History.{History, start, moment, next as next_in}
use Rattle.dur_view.specs.IsSound.{IsHistory}
use Rattle.dur_view.specs.Past.{no_topic}
use Rattle.rel_reader.specs.Stories.{Story, Begin, ◌▸◌, Data, next}
use Rattle.dur_hub.specs.Telling.{topic_in}
use Rattle.dur_view.specs.Stored.{stored}
use Rattle.dur_hub.specs.Runs.{Writer, Run}

-- what is asked of each sample that a writer of the view may add
abbrev pub MayTake : View → Guid → Sample → Type 0
MayTake v w s = IsGood s × (is_key_of v.topics (topic_of v w) s.key ≡ true)

abbrev pub ReadsAs : (Sample → Type 0) → Option Sample → Type 0
ReadsAs P None = Unit {0}
ReadsAs P (Some s) = P s

-- each sample that a story tells
abbrev pub Tells : (Sample → Type 0) → Story → Type 0
Tells P (Begin n) = Unit {0}
Tells P (h ▸ Data j read) = ReadsAs P read × Tells P h
Tells P (h ▸ e) = Tells P h

-- A writer of the plan stands in the history, in a topic of the shape that the plan says; its next number is the history's,
-- and each sample that it told may be taken.
pub record GoodWriter (h : History) (plan : Plan) (w : Writer) : Type 0 where
  pub stands : stands (start h) w.line.guid ≡ true
  pub shape : (unwrap_or (slice_get (start h).topics (topic_of (start h) w.line.guid)) no_topic).shape ≡ (topic_in plan w.line.topic).shape
  pub next : next w.story ≡ next_in h w.line.guid
  pub samples : Tells (MayTake (start h) w.line.guid) w.story

abbrev pub GoodWriters : History → Plan → List Writer → Type 0
GoodWriters h plan [] = Unit {0}
GoodWriters h plan (w ∷ ws) = GoodWriter h plan w × GoodWriters h plan ws

-- none of the writers has this GUID
abbrev pub Out : Guid → List Writer → Type 0
Out g [] = Unit {0}
Out g (w ∷ ws) = (w.line.guid ≢ g) × Out g ws

-- their GUIDs differ
abbrev pub Apart : List Writer → Type 0
Apart [] = Unit {0}
Apart (w ∷ ws) = Out w.line.guid ws × Apart ws

-- The entries are a history over the start, no entry is of a moment after the run's, the writers are good and differ, and the
-- counts lie one within the other.
pub record IsGoodRun (r : Run) : Type 0 where
  pub history : IsHistory r.history
  pub early : moment r.history ≤ r.moment
  pub writers : GoodWriters r.history r.plan r.writers
  pub apart : Apart r.writers
  pub durable : r.durable ≤ r.taken
  pub taken : r.taken ≤ length (stored r.history)

-- The part of a plan, of a view and of a history that outlives the process: the topics of kind PERSISTENT (DDS 2.2.3.4).
use Rattle.std.specs.Prelude.{◌≡◌, All, Contains, is_some, ℕ, Bool, true, false, if◌then◌else◌, List, map, filter, take, length, option_map, unwrap_or, slice_get}
use Rattle.dur_base.specs.declared.kinds.Durability.{Durability}
use Rattle.dur_base.specs.declared.kinds.Durability.TheVariants.{Persistent}
use Rattle.dur_qos.specs.declared.plan.Plan.{Plan}
use Rattle.dur_qos.specs.declared.plan.Topic.{Topic}
use Rattle.dur_qos.specs.declared.plan.WriterLine.{WriterLine}
use Rattle.dur_qos.specs.declared.plan.ReaderLine.{ReaderLine}
use Rattle.dur_view.specs.declared.data.KeptWriter.{KeptWriter}
use Rattle.dur_view.specs.declared.data.Instance.{Instance}
use Rattle.dur_view.specs.declared.data.Kept.{Kept}
use Rattle.dur_view.specs.declared.data.View.{View}
use Rattle.dur_qos.specs.Plan.{place_of}
use Rattle.dur_view.specs.Words.{topic_of, stands}
use Rattle.dur_view.specs.History.{History, Start, ◌▸◌, start, writer_of}

abbrev pub is_persistent_kind : Durability → Bool
is_persistent_kind Persistent = true
is_persistent_kind kind = false

abbrev pub is_persistent : Topic → Bool
is_persistent t = is_persistent_kind t.kind

-- whether what stands at a place passes the test
abbrev pub passes_at : {X : Type 0} → (X → Bool) → List X → ℕ → Bool
passes_at test xs i = unwrap_or (option_map test (slice_get xs i)) false

-- the place among those that pass the test of what stands at a place among all
abbrev pub place_among : {X : Type 0} → (X → Bool) → List X → ℕ → ℕ
place_among test xs i = length (filter test (take i xs))

-- a line of a plan, with the place of its topic among the persistent ones
abbrev pub writer_line_among : Plan → WriterLine → WriterLine
writer_line_among plan w = record w { topic = place_among is_persistent plan.topics w.topic }

abbrev pub reader_line_among : Plan → ReaderLine → ReaderLine
reader_line_among plan r = record r { topic = place_among is_persistent plan.topics r.topic }

-- P(plan): the persistent topics with their writers and readers.
abbrev pub persistent_plan : Plan → Plan
persistent_plan plan =
    record {
      prefix = plan.prefix;
      topics = filter is_persistent plan.topics;
      writers = map (writer_line_among plan) (filter (λ w. passes_at is_persistent plan.topics w.topic) plan.writers);
      readers = map (reader_line_among plan) (filter (λ r. passes_at is_persistent plan.topics r.topic) plan.readers);
    }

-- what stands in a persistent topic
abbrev pub writer_stays : View → KeptWriter → Bool
writer_stays v w = passes_at is_persistent v.topics w.topic

abbrev pub instance_stays : View → Instance → Bool
instance_stays v i = passes_at is_persistent v.topics i.topic

abbrev pub kept_stays : View → Kept → Bool
kept_stays v c = passes_at (instance_stays v) v.instances c.instance

-- with places among what is persistent
abbrev pub writer_among : View → KeptWriter → KeptWriter
writer_among v w = record w { topic = place_among is_persistent v.topics w.topic }

abbrev pub instance_among : View → Instance → Instance
instance_among v i = record i { topic = place_among is_persistent v.topics i.topic; registered = map (place_among (writer_stays v) v.writers) i.registered }

abbrev pub kept_among : View → Kept → Kept
kept_among v c = record c { instance = place_among (instance_stays v) v.instances c.instance }

-- P(v): the persistent topics with their writers, instances and kept changes.
abbrev pub persistent_view : View → View
persistent_view v =
    record {
      last = v.last;
      topics = filter is_persistent v.topics;
      writers = map (writer_among v) (filter (writer_stays v) v.writers);
      instances = map (instance_among v) (filter (instance_stays v) v.instances);
      kept = map (kept_among v) (filter (kept_stays v) v.kept);
    }

-- P(h): the persistent part of the start, and the entries of persistent topics.
abbrev pub persistent : History → History
persistent (Start v) = Start (persistent_view v)
persistent (h ▸ e) = if passes_at is_persistent (start h).topics (topic_of (start h) (writer_of e)) then persistent h ▸ e else persistent h

-- A start that has all of the persistent part of the plan, and nothing else.
pub record HasPersistentPart (plan : Plan) (v : View) : Type 0 where
  -- its topics are persistent ones of the plan
  pub persistent : All (λ t. is_persistent t ≡ true) v.topics
  pub declared : All (Contains plan.topics) v.topics
  -- and it lacks no persistent topic and no writer of one
  pub topics : All (λ t. is_persistent t ≡ true → is_some (place_of t.name v.topics) ≡ true) plan.topics
  pub writers : All (λ w. passes_at is_persistent plan.topics w.topic ≡ true → stands v w.guid ≡ true) plan.writers

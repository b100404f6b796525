-- The histories that a journal keeps: of persistent topics alone, with all of these that a plan declares.
use Rattle.std.specs.Prelude.{◌≡◌, ◌≢◌, ◌⊎◌, ℕ, ◌<◌, ◌≤◌, ◌^◌, All, Contains, List, [], length, slice_get, Some, unwrap_or, option_map}
use Rattle.std.specs.List.{AllByRecursion, AllWithin}
use Rattle.dur_base.specs.declared.entry.Entry.{Entry}
use Rattle.dur_base.specs.declared.kinds.Durability.TheVariants.{Persistent}
use Rattle.dur_qos.specs.declared.plan.Plan.{Plan}
use Rattle.dur_qos.specs.declared.plan.Topic.{Topic}
use Rattle.dur_qos.specs.declared.plan.WriterLine.{WriterLine}
use Rattle.dur_view.specs.declared.data.View.{View}
use Rattle.dur_view.specs.declared.data.KeptWriter.{KeptWriter}
use Rattle.dur_view.specs.History.{History, Start, ◌+>◌, moment}
use Rattle.dur_view.specs.View.{view}
use Rattle.dur_view.specs.Full.{full, filled, blank}
use Rattle.dur_view.specs.IsSound.{IsSound, IsHistory}
use Rattle.dur_view.specs.Persistent.{persistent_plan}

-- a history and entries more
abbrev pub more : History → List Entry → History
more h es = h +> es

-- the view of a history at its last moment
unfoldable pub view_of : History → View
view_of h = view h (moment h)

-- a history with all that the plan declares of persistent topics: its entries over the view of its start that lacks none of it
unfoldable pub completed : Plan → History → History
completed plan h = filled (persistent_plan plan) h

-- the view lacks nothing that the plan declares of persistent topics
unfoldable pub IsWhole : Plan → View → Type 0
IsWhole plan v = full (persistent_plan plan) v ≡ v

-- all that the plan declares of persistent topics, and nothing handled
unfoldable pub blank_of : Plan → View
blank_of plan = blank (persistent_plan plan)

-- A view that a base may be: it may begin a history, and its topics outlive the process.
pub record IsBase (v : View) : Type 0 where
  pub sound : IsSound v
  pub persistent : AllByRecursion (λ t. t.kind ≡ Persistent) v.topics

-- the name of the topic at a place
abbrev pub name_at : List Topic → ℕ → List ℕ
name_at topics i = unwrap_or (option_map (λ t. t.name) (slice_get topics i)) []

-- The plan declares the writer under another topic than the view, by its name.
pub record IsElsewhere (plan : Plan) (v : View) (w : KeptWriter) : Type 0 where
  pub line : WriterLine
  pub listed : Contains plan.writers line
  pub same : line.guid ≡ w.guid
  pub other : name_at plan.topics line.topic ≢ name_at v.topics w.topic

-- the plan has this topic, with equal settings
unfoldable pub Has : Plan → Topic → Type 0
Has plan t = Contains plan.topics t

-- The topic at that place of the view is the first one that the plan does not have with equal settings.
pub record IsStrange (plan : Plan) (v : View) (place : ℕ) : Type 0 where
  pub within : place < length v.topics
  pub lacks : (t : Topic) → slice_get v.topics place ≡ Some t → Has plan t → ⊥
  pub first : AllWithin (Has plan) v.topics 0 place

-- The writer at that place of the view is the first one that the plan declares under another topic.
pub record IsMoved (plan : Plan) (v : View) (place : ℕ) : Type 0 where
  pub within : place < length v.writers
  pub elsewhere : (w : KeptWriter) → slice_get v.writers place ≡ Some w → IsElsewhere plan v w
  pub first : AllWithin (λ w. IsElsewhere plan v w → ⊥) v.writers 0 place

-- the name is that of the view's first strange topic
pub record TopicDiffers (plan : Plan) (v : View) (name : List ℕ) : Type 0 where
  pub place : ℕ
  pub strange : IsStrange plan v place
  pub named : name ≡ name_at v.topics place

-- no topic is strange, and the name is that of the topic in which the view keeps the first moved writer
pub record WriterDiffers (plan : Plan) (v : View) (name : List ℕ) : Type 0 where
  pub topics : All (Has plan) v.topics
  pub place : ℕ
  pub moved : IsMoved plan v place
  pub named : (w : KeptWriter) → slice_get v.writers place ≡ Some w → name ≡ name_at v.topics w.topic

-- A plan differs from a view of persistent topics by the topic of that name.
abbrev pub Differing : Plan → View → List ℕ → Type 0
Differing plan v name = TopicDiffers plan v name ⊎ WriterDiffers plan v name

-- it has each topic of the view, and none of its writers under another one
pub record Agreeing (plan : Plan) (v : View) : Type 0 where
  pub topics : All (Has plan) v.topics
  pub writers : All (λ w. IsElsewhere plan v w → ⊥) v.writers

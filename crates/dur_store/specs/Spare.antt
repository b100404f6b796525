-- The room of writers and topics for what comes next.
use Rattle.std.specs.Prelude.{◌≡◌, ℕ, ◌<◌, ◌≤◌, Some, List, length, get_or, slice_get}
use Rattle.dur_view.specs.History.{History}
use Rattle.dur_instances.specs.Trimmed.{Trimmed}
use Rattle.dur_store.specs.declared.writer.Writer.{Writer}
use Rattle.dur_store.specs.Parts.{AreTopics}

-- each writer has room for a member more
abbrev pub HaveSpare : List Writer → Type 0
HaveSpare ws = (i : ℕ) (w : Writer) → slice_get ws i ≡ Some w → 0 < w.held.room

-- each topic has room for so many changes
abbrev pub HaveRoom : List ℕ → List Trimmed → Type 0
HaveRoom ns xs = (t : ℕ) (x : Trimmed) → slice_get xs t ≡ Some x → get_or ns t 0 ≤ x.room

-- each of the first topics needs room for more changes than a writer of it holds members
abbrev pub AreNeeded : List ℕ → ℕ → List Writer → Type 0
AreNeeded ns topics ws = (i : ℕ) (w : Writer) → slice_get ws i ≡ Some w → w.topic < topics
    → length w.held.items < get_or ns w.topic 0

-- a writer stood there with the same topic, as many members or more, and no more room
pub record HadWriter (old : List Writer) (i : ℕ) (w : Writer) : Type 0 where
  pub was : Writer
  pub at : slice_get old i ≡ Some was
  pub topic : w.topic ≡ was.topic
  pub held : length w.held.items ≤ length was.held.items
  pub room : was.held.room ≤ w.held.room

abbrev pub HadWriters : List Writer → List Writer → Type 0
HadWriters old new = (i : ℕ) (w : Writer) → slice_get new i ≡ Some w → HadWriter old i w

-- a topic stood there with no more room
pub record HadTopic (old : List Trimmed) (t : ℕ) (x : Trimmed) : Type 0 where
  pub was : Trimmed
  pub at : slice_get old t ≡ Some was
  pub room : was.room ≤ x.room

abbrev pub HadTopics : List Trimmed → List Trimmed → Type 0
HadTopics old new = (t : ℕ) (x : Trimmed) → slice_get new t ≡ Some x → HadTopic old t x

-- The same topics, with as much room or more.
pub record GotRoom (old new : List Trimmed) : Type 0 where
  pub count : length new ≡ length old
  pub topics : (h : History) → AreTopics old h → AreTopics new h
  pub stays : HadTopics old new

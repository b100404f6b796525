-- What the parts of a store say of a history.
use Rattle.std.specs.Prelude.{◌≡◌, ℕ, ◌+◌, ◌%◌, ◌^◌, ◌≤◌, Some, List, [], map, slice_get}
use Rattle.dur_view.specs.declared.data.KeptWriter.{KeptWriter}
use Rattle.dur_view.specs.declared.data.View.{View}
use Rattle.dur_view.specs.History.{History, start, moment}
use Rattle.dur_view.specs.Past.{past}
use Rattle.dur_view.specs.declared.data.Instance.{Instance}
use Rattle.dur_view.specs.declared.data.Kept.{Kept}
use Rattle.dur_view.specs.View.{line_after, instances_upto, kept_upto}
use Rattle.dur_store.specs.declared.writer.Writer.{Writer}
use Rattle.dur_instances.specs.Trimmed.{Trimmed}
use Rattle.dur_instances.specs.Stands.{Stands}

-- the last moment and the topics. Writers, instances and changes are kept beside them
abbrev pub outline_of : History → View
outline_of h = record { last = moment h; topics = (start h).topics; writers = []; instances = []; kept = [] }

-- a writer, as a view tells it
abbrev pub line_of : Writer → KeptWriter
line_of w = record { guid = w.guid; topic = w.topic; next = w.next; held = w.held.items }

-- the writers of the start, each with its next number and the members of its open set
abbrev pub AreWriters : List Writer → History → Type 0
AreWriters ws h = map line_of ws ≡ map (line_after h) (start h).writers

-- What is kept of the topic at a place.
pub record IsTopic (t : ℕ) (h : History) (x : Trimmed) : Type 0 where
  -- it tells the same as the topic's past
  pub stands : Stands x (past t h)
  -- from its own last moment on, which is none after the history's
  pub early : x.last ≤ moment h

abbrev pub AreTopics : List Trimmed → History → Type 0
AreTopics xs h = (t : ℕ) (x : Trimmed) → slice_get xs t ≡ Some x → IsTopic t h x

-- a kept change whose instance stands behind so many others
abbrev pub moved : ℕ → Kept → Kept
moved base c = record c { instance = (base + c.instance) % 2 ^ 64 }

-- what a view says of the instances and the kept changes of the first n topics
pub record AreAll (n : ℕ) (h : History) (now : ℕ) (instances : List Instance) (kept : List Kept) : Type 0 where
  pub instances_are : instances ≡ instances_upto n h now
  pub kept_are : kept ≡ kept_upto n h now

-- The room that a store has for its next entry.
use Rattle.std.specs.Prelude.{◌≡◌, ◌≢◌, ℕ, ◌<◌, ◌≤◌, Some, length, get_or, slice_get}
use Rattle.dur_instances.specs.Trimmed.{Trimmed}
use Rattle.dur_store.specs.declared.store.Store.{Store}
use Rattle.dur_store.specs.declared.writer.Writer.{Writer}
use Rattle.dur_store.specs.Spare.{HaveSpare, HaveRoom}

-- The next entry needs no memory.
pub record HasRoom (s : Store) : Type 0 where
  -- each writer may hold one member more
  pub writers : HaveSpare s.writers.items
  -- and each topic takes a closer with all the members that a writer of it holds
  pub topics : HaveRoom s.needed.items s.topics.items

-- The same but for one writer and one topic, whose room the last entry used up.
pub record HasRoomBut (s : Store) : Type 0 where
  pub writers : (i : ℕ) (w : Writer) → slice_get s.writers.items i ≡ Some w → i ≢ s.used_writer
      → 0 < w.held.room
  pub topics : (t : ℕ) (x : Trimmed) → slice_get s.topics.items t ≡ Some x → t ≢ s.used_topic
      → get_or s.needed.items t 0 ≤ x.room
  -- a topic needs room for more changes than a writer of it holds members
  pub needed : (i : ℕ) (w : Writer) → slice_get s.writers.items i ≡ Some w
      → length w.held.items < get_or s.needed.items w.topic 0

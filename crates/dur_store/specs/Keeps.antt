-- What a store keeps.
use Rattle.std.specs.Prelude.{◌≡◌, length}
use Rattle.dur_view.specs.History.{History, start}
use Rattle.dur_view.specs.IsSound.{IsHistory}
use Rattle.dur_sets.specs.Stands.{StandFor}
use Rattle.dur_store.specs.declared.store.Store.{Store}
use Rattle.dur_store.specs.Places.{guids, found, IsIndex}
use Rattle.dur_store.specs.Parts.{outline_of, AreWriters, AreTopics}
use Rattle.dur_store.specs.Room.{HasRoomBut}

-- The store stands for this history. Whoever uses a store cites this relation alone, so how a store keeps a history may
-- change without a changed clause.
pub record Keeps (s : Store) (h : History) : Type 0 where
  -- the start is sound, and each entry follows those before it
  pub history : IsHistory h
  -- the last moment, and the topics
  pub outline : s.outline ≡ outline_of h
  -- the writers, with their next numbers and the members of their open sets
  pub writers : AreWriters s.writers.items h
  -- where each writer stands
  pub index : IsIndex (found s.index) (guids (start h).writers)
  -- the open sets
  pub sets : StandFor s.sets h
  -- the instances and the kept changes of each topic
  pub count : length s.topics.items ≡ length (start h).topics
  pub topics : AreTopics s.topics.items h
  -- room for the next entry, but for what the last one used up
  pub room : HasRoomBut s

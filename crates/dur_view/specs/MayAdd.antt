-- A history to which a writer may add.
use Rattle.std.specs.Prelude.{◌≡◌, ℕ, ◌≤◌, true}
use Rattle.dur_view.specs.Identities.{Guid, Key}
use Rattle.dur_view.specs.Words.{stands, topic_of, is_key_of}
use Rattle.dur_view.specs.History.{History, start, moment}
use Rattle.dur_view.specs.IsSound.{IsHistory}

-- the writer stands in the start, its topic takes every key, and no entry is of a moment after this one
pub record MayAdd (h : History) (w : Guid) (m : ℕ) : Type 0 where
  pub history : IsHistory h
  pub early : moment h ≤ m
  pub known : stands (start h) w ≡ true
  pub keyed : (k : Key) → is_key_of (start h).topics (topic_of (start h) w) k ≡ true

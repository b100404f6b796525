-- All that ever happened between a writer and its reader, one after another. A story is built at its newer end.
use Rattle.std.specs.Prelude.{ℕ, Option}
use Rattle.dur_base.specs.declared.sample.Sample.{Sample}
use Rattle.dur_base.specs.NumberSets.{NumberSet}

infixl 60 ◌▸◌
-- A DATA of the number k came, readable or not; a GAP came, with its gapStart and its set; a HEARTBEAT came, with its first
-- available number; all numbers below `to` were handled; or the next number was refused.
pub data Happening : Type 0 where
  Data : (k : ℕ) → (read : Option Sample) → Happening
  Gap : (start : ℕ) → (set : NumberSet) → Happening
  Beat : (first : ℕ) → Happening
  Handled : (to : ℕ) → Happening
  Refused : Happening

-- it begins with the number that is to be handled first
pub data Story : Type 0 where
  Begin : (next : ℕ) → Story
  ◌▸◌ : (h : Story) → (e : Happening) → Story

-- The next number: that after the last handled one, or the one that the story begins with.
abbrev pub next : Story → ℕ
next (Begin n) = n
next (h ▸ Handled to) = to
next (h ▸ e) = next h

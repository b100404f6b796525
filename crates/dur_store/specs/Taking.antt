-- What becomes of a writer and its topic as a sample is taken in (DDS 2.2.3.6).
use Rattle.std.specs.Prelude.{◌≡◌, ℕ, ◌+◌, ◌≤◌, List, length}
use Rattle.dur_base.specs.declared.sample.Sample.{Sample}
use Rattle.dur_base.specs.declared.entry.Entry.TheVariants.{Took}
use Rattle.dur_view.specs.declared.data.Held.{Held}
use Rattle.dur_view.specs.History.{brings, joined}
use Rattle.dur_view.specs.Past.{Past, ◌▹▹◌}
use Rattle.dur_instances.specs.Trimmed.{Trimmed}
use Rattle.dur_instances.specs.Stands.{Stands}
use Rattle.dur_sets.specs.declared.effect.Before.{Before}
use Rattle.dur_sets.specs.declared.effect.Before.TheVariants.{Close}
use Rattle.dur_store.specs.declared.writer.Writer.{Writer}
use Rattle.dur_store.specs.Parts.{line_of}

-- a set that is closed is closed whole
abbrev pub IsWhole : Before → List Held → Type 0
IsWhole before members = (n : ℕ) → before ≡ Close n → n ≡ length members

-- The sample of a number is taken in at a moment, by the writer at a place.
pub record TakesIn (place moment number : ℕ) (s : Sample) (old new : Writer) (topic after : Trimmed) : Type 0 where
  -- the writer goes on at the next number, and holds what the definitions say
  pub writer : line_of new ≡ record (line_of old) { next = number + 1; held = joined s.set record { number = number; moment = moment; sample = s } old.held.items }
  -- what the sample brings takes effect in the topic
  pub stands : (p : Past) → Stands topic p → Stands after (p ▹▹ brings place old.held.items (Took moment old.guid number s))
  pub last : after.last ≤ moment

-- What a late reader stands for, and what a datagram makes of it.
use Rattle.std.specs.Prelude.{◌≡◌, ◌≤◌, ℕ, Bool, List, map, take, length, None, unwrap_or}
use Rattle.dur_base.specs.Goodness.{zero_key}
use Rattle.dur_base.specs.declared.fact.Fact.{Fact}
use Rattle.dur_base.specs.declared.sample.Sample.{Sample}
use Rattle.rel_reader.specs.Windows.{Fits}
use Rattle.rtps_message.specs.declared.heard.Heard.{Heard}
use Rattle.rtps_message.specs.Messages.{Hears}
use Rattle.rel_writer.specs.declared.late.LateReader.{LateReader}
use Rattle.rel_writer.specs.declared.taken.Replayed.{Replayed}
use Rattle.rel_writer.specs.declared.taken.Taken.{Taken}
use Rattle.rel_writer.specs.LateReaders.{Late, LateHears}
use Rattle.rel_writer.specs.Sets.{handed, unmarked, last_set, any_marker}

-- a sample as it is handed out, with its original; each that is handled has one
abbrev pub replayed : Sample → Replayed
replayed s = record {
  original = (unwrap_or s.original (zero_key, 1)).0;
  number = (unwrap_or s.original (zero_key, 1)).1;
  sample = s;
}

-- these samples were handled
pub record Holds (t : Taken) (xs : List Sample) : Type 0 where
  pub samples : t.samples.items ≡ map replayed (unmarked xs)
  pub taken : take t.closed t.samples.items ≡ map replayed (handed xs)
  pub within : t.closed ≤ length t.samples.items
  pub last : t.set ≡ last_set None xs
  pub done : t.done ≡ any_marker xs

-- the late reader stands for this state
pub record Stands (r : LateReader) (l : Late) : Type 0 where
  pub reader : r.reader ≡ l.reader
  pub service : r.service ≡ l.service
  pub writer : r.writer ≡ l.writer
  pub kept : r.kept ≡ l.kept
  pub fits : Fits r.proxy l.story
  pub taken : Holds r.taken l.handled
  pub last : r.last ≡ l.last
  pub nacks : r.nacks ≡ l.nacks

-- the facts of a datagram came
pub record HearsAll (r : LateReader) (asked : Bool) (fs : List Fact) (l : Late) : Type 0 where
  pub after : Late
  pub hears : LateHears l fs asked after
  pub stands : Stands r after

-- a datagram came, and told its facts
pub record HearsBytes (r : LateReader) (asked : Bool) (bytes : List ℕ) (l : Late) : Type 0 where
  pub heard : Heard
  pub tells : Hears (take 12 l.reader) bytes heard
  pub all : HearsAll r asked heard.facts l

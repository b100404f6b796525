-- A session: what it sends, and what an ACKNACK tells it.
use Rattle.std.specs.Prelude.{◌≡◌, ℕ, ◌+◌, ◌%◌, ◌^◌, ◌-◌, ◌<◌, ◌≤◌, ◌&&◌, ◌||◌, nat_le, nat_lt, Bool, false, List, [], ◌∷◌, ◌++◌, length, drop, Option, Some, None, slice_get, if◌then◌else◌}
use Rattle.std.specs.Str.{bytes_eq}
use Rattle.dur_base.specs.NumberSets.{NumberSet, names}
use Rattle.dur_base.specs.declared.fact.Fact.{Fact}
use Rattle.dur_base.specs.declared.fact.Fact.TheVariants as facts
use Rattle.dur_base.specs.declared.sample.Raw.{Raw}
use Rattle.dur_base.specs.declared.sample.Sample.{Sample}
use Rattle.rtps_submsg.specs.declared.sub.DataSub.{DataSub}
use Rattle.rtps_message.specs.Written.{message, heartbeat_subs, sample_subs, marker_subs, IsSampleData, IsMarkerData, TellsOne, sample_raw, marker_raw}
use Rattle.rel_writer.specs.declared.ids.Ids.{Ids}
use Rattle.rel_writer.specs.Replays.{IsSent}
use Rattle.std.specs.List.{AllByRecursion}

-- its ids; the samples of the numbers from 1 on, of which the marker is the next; how many
-- HEARTBEATs it sent, modulo 2^32; whether the late reader said that it has all
pub record Sending : Type 0 where
  pub ids : Ids
  pub samples : List Sample
  pub beats : ℕ
  pub complete : Bool

abbrev pub opened : Ids → List Sample → Sending
opened ids samples = record { ids = ids; samples = samples; beats = 0; complete = false }

-- the number of the marker
abbrev pub last_of : Sending → ℕ
last_of s = length s.samples + 1

abbrev pub beaten : Sending → Sending
beaten s = record s { beats = (s.beats + 1) % 2 ^ 32 }

-- An ACKNACK with this set came. It is complete once a base lies above the marker.
abbrev pub answered : Sending → NumberSet → Sending
answered s set = record s { complete = s.complete || nat_lt (last_of s) set.base }

-- what it is asked for: numbers up to the marker
abbrev pub is_asked : Sending → NumberSet → ℕ → Bool
is_asked s set k = names set k && nat_le k (last_of s)

-- and a HEARTBEAT, unless the late reader has all
abbrev pub asks_beat : Sending → NumberSet → Bool
asks_beat s set = nat_le set.base (last_of s)

-- it hears the ACKNACKs of its late reader that are for its writer
abbrev pub hears_one : Sending → Fact → Sending
hears_one s (facts.Nack reader writer set is_final) =
    if bytes_eq reader s.ids.reader && bytes_eq writer s.ids.writer then answered s set else s
hears_one s _ = s

abbrev pub hears_all : Sending → List Fact → Sending
hears_all s [] = s
hears_all s (f ∷ fs) = hears_all (hears_one s f) fs

-- its samples are changes as they are sent, and the marker has a number of a sample
pub record IsSending (s : Sending) : Type 0 where
  pub each : AllByRecursion (IsSent s.ids.keyed) s.samples
  pub few : length s.samples + 1 < 2 ^ 63 - 1

-- ---- its datagrams

-- so many octets are written to the front of a place, and the others are as they were
pub record Writes (old new : List ℕ) (n : ℕ) : Type 0 where
  pub within : n ≤ length new
  pub rest : drop n new ≡ drop n old

-- the facts that its datagrams tell: the HEARTBEAT, and the DATA of a number
abbrev pub beat_fact : Sending → Fact
beat_fact s = facts.Beat (s.ids.own ++ s.ids.writer) (drop 12 s.ids.reader) 1 (last_of s) false

abbrev pub data_fact : Ids → ℕ → Raw → Fact
data_fact ids k raw = facts.Data (ids.own ++ ids.writer) (drop 12 ids.reader) k raw

-- the HEARTBEAT that it sends next
pub record IsBeat (s : Sending) (bytes : List ℕ) : Type 0 where
  pub text : bytes ≡ message s.ids.own
      (heartbeat_subs s.ids.reader s.ids.writer (last_of s) ((s.beats + 1) % 2 ^ 32))
  pub tells : TellsOne s.ids.reader bytes (beat_fact s)

-- the DATA of one of its samples
pub record IsSample (ids : Ids) (k : ℕ) (x : Sample) (bytes : List ℕ) : Type 0 where
  pub d : DataSub
  pub is : IsSampleData ids.reader ids.writer k x ids.keyed d
  pub text : bytes ≡ message ids.own (sample_subs ids.reader x.stamp d)
  pub tells : TellsOne ids.reader bytes (data_fact ids k (sample_raw x ids.keyed))

-- the marker
pub record IsMarker (ids : Ids) (k : ℕ) (bytes : List ℕ) : Type 0 where
  pub d : DataSub
  pub is : IsMarkerData ids.reader ids.writer k d
  pub text : bytes ≡ message ids.own (marker_subs ids.reader d)
  pub tells : TellsOne ids.reader bytes (data_fact ids k marker_raw)

-- a place of the replay, from 0 on, has a sample, or is that of the marker
abbrev pub IsPlace : Sending → ℕ → Option Sample → List ℕ → Type 0
IsPlace s at (Some x) bytes = IsSample s.ids (at + 1) x bytes
IsPlace s at None bytes = (at ≡ length s.samples) × IsMarker s.ids (at + 1) bytes

-- the DATA at a place
abbrev pub IsData : Sending → ℕ → List ℕ → Type 0
IsData s at bytes = IsPlace s at (slice_get s.samples at) bytes

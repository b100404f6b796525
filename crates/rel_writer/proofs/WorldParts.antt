-- What holds of each part of a world.
use Rattle.std.proofs.Common.{◌≡◌, ℕ, ◌+◌, ◌≤◌, Bool, true, false, List, [], ◌++◌, length, take, refl}
use Rattle.std.specs.Prelude.{Option, Some, None, slice_get, ◌⊎◌}
use Rattle.std.specs.Str.{bytes_eq}
use Rattle.std.specs.List.{AllByRecursion}
use Rattle.std.proofs.lemmas.Slice.Eq.{bytes_eq-Decides}
use Rattle.dur_base.specs.NumberSets.{NumberSet}
use Rattle.dur_base.specs.declared.fact.Fact.{Fact}
use Rattle.dur_base.specs.declared.fact.Fact.TheVariants as facts
use Rattle.dur_base.specs.declared.sample.Sample.{Sample}
use Rattle.dur_view.specs.declared.change.Change.{Change}
use Rattle.rtps_message.specs.Facts.{everybody}
use Rattle.rtps_message.specs.Sent.{is_keyed}
use Rattle.rtps_message.specs.Written.{TellsOne}
use Rattle.rel_reader.specs.declared.known.Known.{Known}
use Rattle.rel_reader.specs.declared.known.Known.TheVariants.{Unknown, Irrelevant, With}
use Rattle.rel_reader.specs.Stories.{Begin, next}
use Rattle.rel_reader.specs.KnownNumbers.{known}
use Rattle.rel_writer.specs.Replays.{replay, sent, IsSent}
use Rattle.rel_writer.specs.Sessions.{Sending}
use Rattle.rel_writer.specs.LateReaders.{Late, shape_of, read_of}
use Rattle.rel_writer.specs.Worlds.{Begun, World, found}

-- ---- what holds of each part

-- a session under the prefix began with these changes; id is that of the replay's writer
pub record IsBegun (id : List ℕ) (begun : List Begun) (p : List ℕ) (cs : List Change) : Type 0 where
  pub finds : found begun p ≡ Some cs
  pub long : length p ≡ 12
  pub one : bytes_eq p everybody ≡ false
  pub each : AllByRecursion (IsSent (is_keyed (shape_of id))) (sent cs)

-- what is known of a number is what the replay has there
abbrev pub KnownIn : List Sample → ℕ → Known → Type 0
KnownIn xs k Unknown = Unit {0}
KnownIn xs k Irrelevant = ⊥
KnownIn xs k (With s) = (j : ℕ) × (k ≡ j + 1) × (slice_get xs j ≡ Some s)

-- a late reader reads this replay
pub record Reads (l : Late) (xs : List Sample) : Type 0 where
  pub at : ℕ
  pub next_is : next l.story ≡ at + 1
  pub knows : (k : ℕ) → 1 ≤ k → KnownIn xs k (known l.story k)
  pub handled_is : l.handled ≡ take at xs

abbrev pub IsFresh : Late → Type 0
IsFresh l = (l.story ≡ Begin 1) × (l.handled ≡ [])

abbrev pub LateOk : List ℕ → List Begun → Option (List ℕ) → Late → Type 0
LateOk id begun None l = IsFresh l
LateOk id begun (Some p) l = (cs : List Change) × IsBegun id begun p cs × Reads l (replay (sent cs))

-- what a datagram of a replay tells
abbrev pub FactOk : List ℕ → List ℕ → List Sample → Fact → Type 0
FactOk id p xs (facts.Data writer reader k raw) =
    (writer ≡ p ++ id)
    × ((j : ℕ) × (s : Sample) × (k ≡ j + 1) × (slice_get xs j ≡ Some s)
    × (read_of id raw ≡ Some s))
FactOk id p xs (facts.Beat writer reader first last is_final) = (writer ≡ p ++ id) × (first ≡ 1)
FactOk id p xs _ = ⊥

pub record PacketOk (reader id : List ℕ) (begun : List Begun) (bytes : List ℕ) : Type 0 where
  pub p : List ℕ
  pub cs : List Change
  pub begins : IsBegun id begun p cs
  pub fact : Fact
  pub tells : TellsOne reader bytes fact
  pub means : FactOk id p (replay (sent cs)) fact

-- whom an ACKNACK is to, and how far it acknowledges
abbrev pub BaseOk : Late → List ℕ → ℕ → Type 0
BaseOk l to base =
    ((to ≡ everybody) × (base ≤ 1))
    ⊎ ((l.kept ≡ Some to) × (base ≤ next l.story) × (bytes_eq to everybody ≡ false))

pub record NackOk (l : Late) (bytes : List ℕ) : Type 0 where
  pub to : List ℕ
  pub long : length to ≡ 12
  pub set : NumberSet
  pub reader : List ℕ
  pub writer : List ℕ
  pub final : Bool
  pub tells : TellsOne (to ++ l.writer) bytes (facts.Nack reader writer set final)
  pub base : BaseOk l to set.base

pub record SendingOk (id : List ℕ) (begun : List Begun) (l : Late) (s : Sending) : Type 0 where
  pub cs : List Change
  pub begins : IsBegun id begun s.ids.own cs
  pub samples : s.samples ≡ sent cs
  pub writer : s.ids.writer ≡ id
  pub reader : s.ids.reader ≡ l.reader
  pub keyed : s.ids.keyed ≡ is_keyed (shape_of id)
  pub complete : s.complete ≡ true
      → (l.kept ≡ Some s.ids.own) × (length s.samples + 2 ≤ next l.story)

abbrev pub SessionOk : List ℕ → List Begun → Late → Option Sending → Type 0
SessionOk id begun l None = Unit {0}
SessionOk id begun l (Some s) = SendingOk id begun l s

pub record Good (reader id : List ℕ) (w : World) : Type 0 where
  pub reader_is : w.late.reader ≡ reader
  pub id_is : w.late.writer ≡ id
  pub late : LateOk id w.begun w.late.kept w.late
  pub session : SessionOk id w.begun w.late w.session
  pub packets : (i : ℕ) (b : List ℕ) → slice_get w.to_reader i ≡ Some b
      → PacketOk reader id w.begun b
  pub nacks : (i : ℕ) (b : List ℕ) → slice_get w.to_session i ≡ Some b → NackOk w.late b

-- ---- bytes

pub same_bytes : (q p : List ℕ) → bytes_eq q p ≡ true → q ≡ p
same_bytes q p h = (bytes_eq-Decides q p).0 h

pub bytes_same : (p : List ℕ) → bytes_eq p p ≡ true
bytes_same p = (bytes_eq-Decides p p).1 refl

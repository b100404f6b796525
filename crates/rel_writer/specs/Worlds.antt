-- The world of a replay: a late reader, sessions one after another under different prefixes, and
-- all datagrams that they ever sent. Any of these may reach its addressee at any time, and again.
use Rattle.std.specs.Prelude.{◌≡◌, ℕ, Bool, false, Option, Some, None, is_some, List, [], ◌∷◌, ◌++◌, length, take, slice_get, if◌then◌else◌}
use Rattle.std.specs.Str.{bytes_eq}
use Rattle.dur_view.specs.declared.change.Change.{Change}
use Rattle.rtps_message.specs.declared.heard.Heard.{Heard}
use Rattle.rtps_message.specs.Facts.{everybody}
use Rattle.rtps_message.specs.Messages.{Hears}
use Rattle.rtps_message.specs.Sent.{is_keyed}
use Rattle.rel_writer.specs.declared.ids.Ids.{Ids}
use Rattle.rel_writer.specs.Replays.{AreSendable, sent}
use Rattle.rel_writer.specs.Sessions.{Sending, opened, beaten, hears_all, IsBeat, IsData}
use Rattle.rel_writer.specs.LateReaders.{Late, LateHears, IsNack, asked, fresh, shape_of}

-- a session that began: its prefix, and the changes of its snapshot
pub record Begun : Type 0 where
  pub prefix : List ℕ
  pub changes : List Change

-- the late reader; the session, if there is one, and those that began; the datagrams that were ever
-- sent to either, the latest one first
pub record World : Type 0 where
  pub late : Late
  pub session : Option Sending
  pub begun : List Begun
  pub to_reader : List (List ℕ)
  pub to_session : List (List ℕ)

abbrev pub found : List Begun → List ℕ → Option (List Change)
found [] prefix = None
found (b ∷ bs) prefix = if bytes_eq b.prefix prefix then Some b.changes else found bs prefix

-- what may happen; who writes a datagram says which octets
pub data Event : Type 0 where
  Begins : (ids : Ids) → (changes : List Change) → Event
  Crash : Event
  Beats : (bytes : List ℕ) → Event
  Sends : (at : ℕ) → (bytes : List ℕ) → Event
  Asks : (bytes : List ℕ) → Event
  Comes : (which : ℕ) → Event
  Nack_comes : (which : ℕ) → Event

-- A session begins under a new prefix, which is not that of everybody, to this late reader, under
-- the writer's id that it knows.
pub record CanBegin (w : World) (ids : Ids) (changes : List Change) : Type 0 where
  pub is_new : is_some (found w.begun ids.own) ≡ false
  pub long : length ids.own ≡ 12
  pub one : bytes_eq ids.own everybody ≡ false
  pub reader : ids.reader ≡ w.late.reader
  pub writer : ids.writer ≡ w.late.writer
  pub keyed : ids.keyed ≡ is_keyed (shape_of ids.writer)
  pub sendable : AreSendable ids.keyed changes

abbrev pub with_session : World → Option Sending → World
with_session w s = record w { session = s }

abbrev pub with_late : World → Late → World
with_late w l = record w { late = l }

abbrev pub with_begun : World → Ids → List Change → World
with_begun w ids changes = record w {
  session = Some (opened ids (sent changes));
  begun = w.begun ++ (record { prefix = ids.own; changes = changes }) ∷ [];
}

abbrev pub with_sent : World → Sending → List ℕ → World
with_sent w s bytes = record w { session = Some s; to_reader = bytes ∷ w.to_reader }

abbrev pub with_asked : World → List ℕ → World
with_asked w bytes = record w { late = asked w.late; to_session = bytes ∷ w.to_session }

-- one of the datagrams to the late reader reaches it, and tells it its facts
pub record Reaches (w : World) (bytes : List ℕ) (after : World) : Type 0 where
  pub heard : Heard
  pub tells : Hears (take 12 w.late.reader) bytes heard
  pub late : Late
  pub asked : Bool
  pub hears : LateHears w.late heard.facts asked late
  pub is : after ≡ with_late w late

-- one of the ACKNACKs reaches the session, and tells it its facts
pub record Answers (w : World) (s : Sending) (bytes : List ℕ) (after : World) : Type 0 where
  pub heard : Heard
  pub tells : Hears s.ids.own bytes heard
  pub is : after ≡ with_session w (Some (hears_all s heard.facts))

-- what one event makes of the world
abbrev pub Step : World → Event → World → Type 0
Step w (Begins ids changes) after = CanBegin w ids changes × (after ≡ with_begun w ids changes)
Step w Crash after = after ≡ with_session w None
Step w (Beats bytes) after =
    (s : Sending) × (w.session ≡ Some s) × IsBeat s bytes × (after ≡ with_sent w (beaten s) bytes)
Step w (Sends at bytes) after =
    (s : Sending) × (w.session ≡ Some s) × IsData s at bytes × (after ≡ with_sent w s bytes)
Step w (Asks bytes) after = IsNack w.late bytes × (after ≡ with_asked w bytes)
Step w (Comes which) after =
    (bytes : List ℕ) × (slice_get w.to_reader which ≡ Some bytes) × Reaches w bytes after
Step w (Nack_comes which) after =
    (s : Sending) × (bytes : List ℕ) × (w.session ≡ Some s)
    × (slice_get w.to_session which ≡ Some bytes) × Answers w s bytes after

abbrev pub Steps : World → List Event → World → Type 0
Steps w [] after = after ≡ w
Steps w (e ∷ es) after = (between : World) × Step w e between × Steps between es after

-- both are new
abbrev pub start : List ℕ → List ℕ → List ℕ → World
start reader service writer = record {
  late = fresh reader service writer;
  session = None;
  begun = [];
  to_reader = [];
  to_session = [];
}

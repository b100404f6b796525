-- The turns of a late reader over a link in memory, whose other end is a session that answers each
-- datagram at once.
use Rattle.std.specs.Prelude.{suc, zero, ◌≡◌, ℕ, ◌+◌, ◌*◌, ◌-◌, ◌&&◌, ◌||◌, Bool, true, false, if◌then◌else◌, List, [], ◌∷◌, ◌++◌, length, take}
use Rattle.std.specs.Str.{bytes_eq}
use Rattle.dur_base.specs.NumberSets.{NumberSet}
use Rattle.dur_base.specs.declared.fact.Fact.{Fact}
use Rattle.dur_base.specs.declared.fact.Fact.TheVariants as facts
use Rattle.dur_view.specs.declared.change.Change.{Change}
use Rattle.rtps_message.specs.declared.heard.Heard.{Heard}
use Rattle.rtps_message.specs.Messages.{Hears}
use Rattle.rtps_message.specs.Sent.{is_keyed}
use Rattle.rel_writer.specs.declared.ids.Ids.{Ids}
use Rattle.rel_writer.specs.Replays.{AreSendable, sent}
use Rattle.rel_writer.specs.Sets.{any_marker}
use Rattle.rel_writer.specs.Sessions.{Sending, opened, beaten, answered, is_asked, asks_beat, IsBeat, IsData}
use Rattle.rel_writer.specs.LateReaders.{Late, LateHears, IsNack, asked, fresh, shape_of}

-- the late reader, the session, and the datagrams that wait for the late reader, the first one
-- first
pub record Link : Type 0 where
  pub late : Late
  pub session : Sending
  pub queue : List (List ℕ)

-- ---- what the session answers

-- those of so many numbers from k on that are asked for
abbrev pub asked_from : (ℕ → Bool) → ℕ → ℕ → List ℕ
asked_from f k zero = []
asked_from f k (suc n) = if f k then k ∷ asked_from f (k + 1) n else asked_from f (k + 1) n

-- the DATA of these numbers
abbrev pub AreData : Sending → List ℕ → List (List ℕ) → Type 0
AreData s [] sent = sent ≡ []
AreData s (k ∷ ks) sent =
    (first : List ℕ) × (more : List (List ℕ)) × (sent ≡ first ∷ more) × IsData s (k - 1) first
    × AreData s ks more

-- and behind them a HEARTBEAT, where it is asked for
abbrev pub BeatsIf : Bool → Sending → List (List ℕ) → Sending → Type 0
BeatsIf false s beats after = (beats ≡ []) × (after ≡ s)
BeatsIf true s beats after =
    (beat : List ℕ) × (beats ≡ beat ∷ []) × IsBeat s beat × (after ≡ beaten s)

-- it sends what an ACKNACK with this set asks for
pub record Replies (s : Sending) (set : NumberSet) (sent : List (List ℕ)) (after : Sending) : Type 0 where
  pub numbers : List (List ℕ)
  pub are : AreData s (asked_from (is_asked s set) set.base 256) numbers
  pub beats : List (List ℕ)
  pub behind : BeatsIf (asks_beat s set) (answered s set) beats after
  pub all : sent ≡ numbers ++ beats

abbrev pub RepliesIf : Bool → Sending → NumberSet → List (List ℕ) → Sending → Type 0
RepliesIf false s set sent after = (sent ≡ []) × (after ≡ s)
RepliesIf true s set sent after = Replies s set sent after

-- it replies to the ACKNACKs of its late reader that are for its writer
abbrev pub RepliesTo : Sending → Fact → List (List ℕ) → Sending → Type 0
RepliesTo s (facts.Nack reader writer set is_final) sent after =
    RepliesIf (bytes_eq reader s.ids.reader && bytes_eq writer s.ids.writer) s set sent after
RepliesTo s _ sent after = (sent ≡ []) × (after ≡ s)

abbrev pub RepliesAll : Sending → List Fact → List (List ℕ) → Sending → Type 0
RepliesAll s [] sent after = (sent ≡ []) × (after ≡ s)
RepliesAll s (f ∷ fs) sent after =
    (now : List (List ℕ)) × (later : List (List ℕ)) × (between : Sending)
    × RepliesTo s f now between × RepliesAll between fs later after × (sent ≡ now ++ later)

-- ---- a turn

-- It receives once. It asks where nothing was waiting, where the datagram asks, or where it became
-- done.
abbrev pub Receives : Late → List (List ℕ) → List (List ℕ) → Bool → Late → Type 0
Receives l [] rest asks after = (rest ≡ []) × (asks ≡ true) × (after ≡ l)
Receives l (bytes ∷ queue) rest asks after =
    (heard : Heard) × (shown : Bool) × Hears (take 12 l.reader) bytes heard
    × LateHears l heard.facts shown after × (asks ≡ (shown || any_marker after.handled))
    × (rest ≡ queue)

-- an ACKNACK reaches the session, which replies at once
pub record Asks (l : Late) (s : Sending) (rest : List (List ℕ)) (w : Link) : Type 0 where
  pub bytes : List ℕ
  pub nack : IsNack l bytes
  pub heard : Heard
  pub tells : Hears s.ids.own bytes heard
  pub sent : List (List ℕ)
  pub after : Sending
  pub replies : RepliesAll s heard.facts sent after
  pub is : w ≡ record { late = asked l; session = after; queue = rest ++ sent }

abbrev pub AsksIf : Bool → Late → Sending → List (List ℕ) → Link → Type 0
AsksIf false l s rest w = w ≡ record { late = l; session = s; queue = rest }
AsksIf true l s rest w = Asks l s rest w

-- The turn in which it becomes done is the last one.
abbrev pub Turn : Bool → Link → Link → Type 0
Turn true v w = w ≡ v
Turn false v w =
    (rest : List (List ℕ)) × (asks : Bool) × (late : Late)
    × Receives v.late v.queue rest asks late × AsksIf asks late v.session rest w

-- so many turns
abbrev pub Turns : ℕ → Link → Link → Type 0
Turns zero v w = w ≡ v
Turns (suc n) v w =
    (between : Link) × Turn (any_marker v.late.handled) v between × Turns n between w

-- ---- the law

-- both are new, and the late reader is that of the session's ids
abbrev pub begin : List ℕ → Ids → List Change → Link
begin service ids changes = record {
  late = fresh ids.reader service ids.writer;
  session = opened ids (sent changes);
  queue = [];
}

pub record Fits (service : List ℕ) (ids : Ids) (changes : List Change) : Type 0 where
  pub long : length ids.own ≡ 12
  pub service_is : take 8 ids.own ≡ service
  pub keyed : ids.keyed ≡ is_keyed (shape_of ids.writer)
  pub sendable : AreSendable ids.keyed changes

-- it is done within 3 + 2 (n + 1) turns
abbrev pub EndsInTime : List ℕ → Ids → List Change → Type 0
EndsInTime service ids changes =
    Fits service ids changes → (w : Link)
    → Turns (3 + 2 * (length changes + 1)) (begin service ids changes) w
    → any_marker w.late.handled ≡ true

-- The steps of a reply.
use Rattle.std.specs.Prelude.{◌≡◌, ◌≢◌, ◌⊎◌, ℕ, ◌<◌, ◌≤◌, Bool, List, [], ◌∷◌, ◌++◌, length, map, take, set, slice_get, Option, Some, None, Ok, Err, if◌then◌else◌}
use Rattle.std.specs.declared.result.Result.{Result}
use Rattle.dur_view.specs.declared.change.Snapshot.{Snapshot}
use Rattle.dur_hub.specs.declared.reply.Ack.{Ack}
use Rattle.dur_hub.specs.declared.reply.SnapFault.{SnapFault}
use Rattle.dur_hub.specs.declared.reply.SnapFault.TheVariants as refused
use Rattle.rel_writer.specs.Replays.{sent}
use Rattle.dur_qos.specs.declared.plan.Plan.{Plan}
use Rattle.dur_view.specs.Identities.{Guid}
use Rattle.dur_hub.specs.declared.event.Event.{Event}
use Rattle.dur_hub.specs.declared.event.Event.TheVariants as call
use Rattle.dur_hub.specs.declared.hub.Hub.{Hub}
use Rattle.dur_hub.specs.Runs.{Run}
use Rattle.dur_hub.specs.Legal.{run_after}
use Rattle.dur_hub.specs.Hubs.{Stands}
use Rattle.dur_base.specs.NumberSets.{NumberSet}
use Rattle.rel_writer.specs.Sessions.{Sending, opened, is_asked}
use Rattle.rel_writer.specs.Turns.{AreData, BeatsIf, Replies as SessionReplies, asked_from}
use Rattle.dur_rerun.specs.declared.rerun.nacks.Nack.{Nack}
use Rattle.dur_rerun.specs.declared.rerun.replays.Replay.{Replay}
use Rattle.dur_rerun.specs.Rerun.Replies.{Place, ack_message, ids_of, snapshot_call, session_for, with_session, RepliesBy, NackCalls, NacksCall, SessionBegins, IsSessionBy, BeginsReply, NacksBegin}

-- the DATA of a number, if it is asked for
abbrev pub IsDataIf : Bool → Sending → ℕ → List (List ℕ) → Type 0
IsDataIf asked s k messages = AreData s (if asked then k ∷ [] else []) messages

-- the DATA of those of the first m numbers from a set's base on that the set asks for
abbrev pub AreDataOf : Sending → NumberSet → ℕ → List (List ℕ) → Type 0
AreDataOf s asked m messages = AreData s (asked_from (is_asked s asked) asked.base m) messages

abbrev pub BeginData : Sending → NumberSet → List (List ℕ) → Type 0
BeginData s asked messages = (m : ℕ) × (m ≤ 256) × AreDataOf s asked m messages

-- the HEARTBEAT, if it is asked for
abbrev pub IsBeatIf : Bool → Sending → Sending → List (List ℕ) → Type 0
IsBeatIf asked before after messages = BeatsIf asked before messages after

-- ---- among the replays

-- the replay to a reader stands at a place: what is put there goes on as its session
pub record StandsAt (replays : List Replay) (g : Guid) (at : ℕ) : Type 0 where
  pub r : Replay
  pub stands : slice_get replays at ≡ Some r
  pub session : session_for replays g ≡ Some r.session
  pub goes_on : (t : Sending) → set replays at (record r { session = t }) ≡ with_session g t replays

abbrev pub IsPlaceOf : List Replay → Guid → Option ℕ → Type 0
IsPlaceOf replays g None = session_for replays g ≡ None
IsPlaceOf replays g (Some at) = (at < length replays) × StandsAt replays g at

-- the session at a place replied to an ACKNACK with this set
pub record IsRepliedAt (before : List Replay) (at : ℕ) (asked : NumberSet) (after : List Replay) (messages : List (List ℕ)) : Type 0 where
  pub r : Replay
  pub stands : slice_get before at ≡ Some r
  pub t : Sending
  pub replies : SessionReplies r.session asked messages t
  pub goes_on : after ≡ set before at (record r { session = t })

-- or began to
pub record BeginsAt (before : List Replay) (at : ℕ) (asked : NumberSet) (messages : List (List ℕ)) : Type 0 where
  pub r : Replay
  pub stands : slice_get before at ≡ Some r
  pub begins : SessionBegins r.session asked messages

-- ---- the hub

abbrev pub IsSnapshot : Event → Type 0
IsSnapshot (call.Snapshot moment reader lost reply) = Unit {0}
IsSnapshot e = ⊥

abbrev pub AreSnapshots : List Event → Type 0
AreSnapshots [] = Unit {0}
AreSnapshots (e ∷ es) = IsSnapshot e × AreSnapshots es

-- where a list of calls has led, and the replays
abbrev pub place_at : Run → List Event → List Replay → Place
place_at start log replays = record { run = run_after start log; replays = replays }

-- the session that replies stands at a place, or nobody replies
pub record OpensAt (own : List ℕ) (n : Nack) (before : Place) (run : Run) (replays : List Replay) (at : ℕ) : Type 0 where
  pub within : at < length replays
  pub r : Replay
  pub stands : slice_get replays at ≡ Some r
  pub session : IsSessionBy (session_for before.replays n.reader) own n before r.session
  pub replies : (messages : List (List ℕ)) (t : Sending) → SessionReplies r.session n.set messages t
      → RepliesBy (session_for before.replays n.reader) own n before messages
      (record { run = run; replays = set replays at (record r { session = t }) })

abbrev pub OpensBy : List ℕ → Nack → Place → Run → List Replay → Option ℕ → Type 0
OpensBy own n before run replays (Some at) = OpensAt own n before run replays at
OpensBy own n before run replays None =
    RepliesBy (session_for before.replays n.reader) own n before [] (record { run = run; replays = replays })

pub record Opens (own : List ℕ) (n : Nack) (start : Run) (log : List Event) (before : List Replay) (hub : Hub) (replays : List Replay) (got : Option ℕ) : Type 0 where
  pub more : List Event
  pub stands : Stands start (log ++ more) hub
  pub snapshots : AreSnapshots more
  pub opens : OpensBy own n (place_at start log before) (run_after start (log ++ more)) replays got

abbrev pub OpensWherever : List ℕ → Nack → Hub → List Replay → Hub → List Replay → Option ℕ → Type 0
OpensWherever own n hub before hub' replays got =
    (start : Run) (log : List Event) → Stands start log hub → Opens own n start log before hub' replays got

-- the hub goes on by snapshots, and with the replays to where that leads
pub record Leads (start : Run) (log : List Event) (hub : Hub) (replays : List Replay) (To : Place → Type 0) : Type 0 where
  pub more : List Event
  pub stands : Stands start (log ++ more) hub
  pub snapshots : AreSnapshots more
  pub to : To (place_at start (log ++ more) replays)

-- what holds wherever the hub stands over a plan
abbrev pub Wherever : Plan → Hub → (Run → List Event → Type 0) → Type 0
Wherever plan hub P = (start : Run) (log : List Event) → Stands start log hub → (run_after start log).plan ≡ plan → P start log

-- ---- ACKNACKs

abbrev pub IsNackReplied : Plan → List ℕ → Nack → Hub → List Replay → Hub → List Replay → List (List ℕ) → Type 0
IsNackReplied plan own n hub replays hub' replays' messages =
    Wherever plan hub (λ start log. Leads start log hub' replays' (λ after. NackCalls own n (place_at start log replays) messages after))

abbrev pub BeginsNack : Plan → List ℕ → Nack → Hub → List Replay → List (List ℕ) → Type 0
BeginsNack plan own n hub replays messages =
    Wherever plan hub (λ start log. (messages ≡ []) ⊎ BeginsReply own n (place_at start log replays) messages)

abbrev pub AreReplied : Plan → List ℕ → List Nack → Hub → List Replay → Hub → List Replay → List (List ℕ) → Type 0
AreReplied plan own ns hub replays hub' replays' messages =
    Wherever plan hub (λ start log. Leads start log hub' replays' (λ after. NacksCall own ns (place_at start log replays) messages after))

abbrev pub BeginNacks : Plan → List ℕ → List Nack → Hub → List Replay → List (List ℕ) → Type 0
BeginNacks plan own ns hub replays messages =
    Wherever plan hub (λ start log. NacksBegin own ns (place_at start log replays) messages)

-- ---- acknowledgements

abbrev pub IsAck : List ℕ → Ack → List (List ℕ) → Type 0
IsAck own a messages = messages ≡ ack_message own a ∷ []

-- the first of them
abbrev pub AreFirst : List ℕ → List Ack → ℕ → List (List ℕ) → Type 0
AreFirst own acks m messages = messages ≡ map (ack_message own) (take m acks)

abbrev pub AreAcks : List ℕ → List Ack → List (List ℕ) → Type 0
AreAcks own acks messages = messages ≡ map (ack_message own) acks

abbrev pub BeginAcks : List ℕ → List Ack → List (List ℕ) → Type 0
BeginAcks own acks messages = (m : ℕ) × AreFirst own acks m messages

-- ---- a session begins

-- the hub answered a snapshot, of which that is the session, or refused it
abbrev pub IsStart : List ℕ → Nack → Option Sending → Result Snapshot SnapFault → Type 0
IsStart own n (Some s) (Ok snapshot) = s ≡ opened (ids_of own n) (sent snapshot.changes)
IsStart own n (Some s) (Err why) = ⊥
IsStart own n None (Ok snapshot) = ⊥
IsStart own n None (Err why) = why ≢ refused.OutOfMemory

pub record Starts (own : List ℕ) (n : Nack) (start : Run) (log : List Event) (hub : Hub) (got : Option Sending) : Type 0 where
  pub lost : ℕ
  pub reply : Result Snapshot SnapFault
  pub stands : Stands start (log ++ snapshot_call (run_after start log) n lost reply ∷ []) hub
  pub is : IsStart own n got reply

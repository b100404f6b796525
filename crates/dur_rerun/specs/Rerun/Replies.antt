-- What a record calls for: the acknowledgements of its datagram, and then what replays send to each ACKNACK in it.
use Rattle.std.specs.Prelude.{◌≡◌, ◌⊎◌, ℕ, ◌≤◌, List, [], ◌∷◌, ◌++◌, map, Option, Some, None, slice_get, take, if◌then◌else◌, Ok, Err}
use Rattle.std.specs.List.{flat_map}
use Rattle.std.specs.declared.result.Result.{Result}
use Rattle.dur_base.specs.NumberSets.{NumberSet}
use Rattle.dur_base.specs.declared.fact.Fact.{Fact}
use Rattle.dur_base.specs.declared.fact.Fact.TheVariants as fact
use Rattle.dur_qos.specs.declared.plan.Plan.{Plan}
use Rattle.dur_qos.specs.declared.plan.ReaderLine.{ReaderLine}
use Rattle.dur_qos.specs.Served.{replay_id_of}
use Rattle.dur_capture.specs.Capture.{record_text}
use Rattle.rtps_message.specs.Written.{message, acknack_subs}
use Rattle.rtps_message.specs.Sent.{is_keyed}
use Rattle.dur_view.specs.Identities.{Guid}
use Rattle.dur_view.specs.Words.{is_same}
use Rattle.dur_view.specs.declared.change.Snapshot.{Snapshot}
use Rattle.rel_writer.specs.declared.ids.Ids.{Ids}
use Rattle.rel_writer.specs.LateReaders.{shape_of}
use Rattle.rel_writer.specs.Replays.{sent}
use Rattle.rel_writer.specs.Sessions.{Sending, opened, is_asked}
use Rattle.rel_writer.specs.Turns.{Replies as SessionReplies, AreData, asked_from}
use Rattle.dur_hub.specs.declared.event.Event.{Event}
use Rattle.dur_hub.specs.declared.event.Event.TheVariants as call
use Rattle.dur_hub.specs.declared.reply.Ack.{Ack}
use Rattle.dur_hub.specs.declared.reply.SnapFault.{SnapFault}
use Rattle.dur_hub.specs.declared.reply.SnapFault.TheVariants as refused
use Rattle.dur_hub.specs.Legal.{LegalAt, after as run_by}
use Rattle.dur_hub.specs.Runs.{Run}
use Rattle.dur_rerun.specs.declared.rerun.nacks.Nack.{Nack}
use Rattle.dur_rerun.specs.declared.rerun.replays.Replay.{Replay}

-- ---- what is asked and what is written

-- the ACKNACKs that facts tell, in their order
abbrev pub nack_of : Fact → List Nack
nack_of (fact.Nack reader writer set is_final) =
    record { reader = reader; writer = writer; set = set } ∷ []
nack_of f = []

abbrev pub nacks : List Fact → List Nack
nacks [] = []
nacks (f ∷ fs) = nack_of f ++ nacks fs

-- messages as records of one moment and one port
abbrev pub records_text : ℕ → ℕ → List (List ℕ) → List ℕ
records_text moment port messages =
    flat_map (λ bytes. record_text (record { moment = moment; port = port; bytes = bytes })) messages

-- ---- acknowledgements

-- the ACKNACK of the service's reader that tells an acknowledgement
abbrev pub ack_message : List ℕ → Ack → List ℕ
ack_message own a = message own (acknack_subs (own ++ a.reader) a.writer a.set a.is_final a.count)

-- ---- replays

-- a place of a run: where the hub stands, and the replays that have begun
pub record Place : Type 0 where
  pub run : Run
  pub replays : List Replay

-- an ACKNACK comes from the late reader at a place of the plan, and is for the writer that replays to it
pub record IsFor (plan : Plan) (n : Nack) (at : ℕ) : Type 0 where
  pub line : ReaderLine
  pub stands : slice_get plan.readers at ≡ Some line
  pub reader : line.guid ≡ n.reader
  pub writer : replay_id_of plan at ≡ n.writer

-- the session that replays to a reader, if one has begun
abbrev pub session_for : List Replay → Guid → Option Sending
session_for [] g = None
session_for (r ∷ rs) g = if is_same r.reader g then Some r.session else session_for rs g

-- the replays once the one to that reader goes on, or begins, as this session
abbrev pub with_session : Guid → Sending → List Replay → List Replay
with_session g s [] = record { reader = g; session = s } ∷ []
with_session g s (r ∷ rs) =
    if is_same r.reader g then record { reader = g; session = s } ∷ rs else r ∷ with_session g s rs

-- who replays to whom: the writer's id says whether the topic has keys
abbrev pub ids_of : List ℕ → Nack → Ids
ids_of own n =
    record { own = own; writer = n.writer; reader = n.reader; keyed = is_keyed (shape_of n.writer) }

-- A session replies: the DATA of the numbers that are asked for, in rising order, and then one HEARTBEAT, where one is asked for.
abbrev pub Answers : Sending → Nack → List Replay → List (List ℕ) → List Replay → Type 0
Answers s n before messages after =
    (t : Sending) × SessionReplies s n.set messages t × (after ≡ with_session n.reader t before)

-- a session of what a snapshot has replies; where the hub refuses a snapshot nobody does
abbrev pub AnswersWith : Ids → Nack → Result Snapshot SnapFault → List Replay → List (List ℕ) → List Replay → Type 0
AnswersWith ids n (Ok snapshot) before messages after =
    Answers (opened ids (sent snapshot.changes)) n before messages after
AnswersWith ids n (Err refused.OutOfMemory) before messages after = ⊥
AnswersWith ids n (Err why) before messages after = (messages ≡ []) × (after ≡ before)

-- the reader is given a snapshot, at the moment that was used last
abbrev pub snapshot_call : Run → Nack → ℕ → Result Snapshot SnapFault → Event
snapshot_call run n lost reply = call.Snapshot run.moment n.reader lost reply

-- The first ACKNACK of a reader begins its replay.
pub record Begins (own : List ℕ) (n : Nack) (before : Place) (messages : List (List ℕ)) (after : Place) : Type 0 where
  pub lost : ℕ
  pub reply : Result Snapshot SnapFault
  pub legal : LegalAt before.run (snapshot_call before.run n lost reply)
  pub leads : after.run ≡ run_by before.run (snapshot_call before.run n lost reply)
  pub answers : AnswersWith (ids_of own n) n reply before.replays messages after.replays

-- where its replay has begun, that goes on
abbrev pub RepliesBy : Option Sending → List ℕ → Nack → Place → List (List ℕ) → Place → Type 0
RepliesBy (Some s) own n before messages after =
    (after.run ≡ before.run) × Answers s n before.replays messages after.replays
RepliesBy None own n before messages after = Begins own n before messages after

-- nobody replies to an ACKNACK that is for none of the plan's replays
pub record Passes (n : Nack) (before : Place) (messages : List (List ℕ)) (after : Place) : Type 0 where
  pub none : (at : ℕ) → IsFor before.run.plan n at → ⊥
  pub silent : messages ≡ []
  pub same : after ≡ before

pub record IsReplied (own : List ℕ) (n : Nack) (before : Place) (messages : List (List ℕ)) (after : Place) : Type 0 where
  pub at : ℕ
  pub is_for : IsFor before.run.plan n at
  pub replies : RepliesBy (session_for before.replays n.reader) own n before messages after

-- What an ACKNACK calls for, and where that leads.
abbrev pub NackCalls : List ℕ → Nack → Place → List (List ℕ) → Place → Type 0
NackCalls own n before messages after =
    Passes n before messages after ⊎ IsReplied own n before messages after

-- what ACKNACKs call for, one after the other
abbrev pub NacksCall : List ℕ → List Nack → Place → List (List ℕ) → Place → Type 0
NacksCall own [] before messages after = (messages ≡ []) × (after ≡ before)
NacksCall own (n ∷ ns) before messages after =
    (now : List (List ℕ)) × (later : List (List ℕ)) × (mid : Place)
    × NackCalls own n before now mid × NacksCall own ns mid later after × (messages ≡ now ++ later)

-- What a record calls for, as text: the acknowledgements, and then what each ACKNACK calls for, with the moment that was used
-- last and the record's port.
pub record Replies (own : List ℕ) (port : ℕ) (acks : List Ack) (ns : List Nack) (before : Place) (text : List ℕ) (after : Place) : Type 0 where
  pub messages : List (List ℕ)
  pub calls : NacksCall own ns before messages after
  pub text_is : text ≡ records_text before.run.moment port (map (ack_message own) acks ++ messages)

-- ---- first messages of that

-- a session began to reply: with the DATA of what is asked of so many numbers, or with all that it replies
abbrev pub SessionBegins : Sending → NumberSet → List (List ℕ) → Type 0
SessionBegins s set messages =
    ((m : ℕ) × (m ≤ 256) × AreData s (asked_from (is_asked s set) set.base m) messages)
    ⊎ ((t : Sending) × SessionReplies s set messages t)

-- the session that replies to an ACKNACK: the one that has begun, or one of what a snapshot has
abbrev pub IsSessionBy : Option Sending → List ℕ → Nack → Place → Sending → Type 0
IsSessionBy (Some t) own n before s = s ≡ t
IsSessionBy None own n before s =
    (lost : ℕ) × (snapshot : Snapshot) × LegalAt before.run (snapshot_call before.run n lost (Ok snapshot))
    × (s ≡ opened (ids_of own n) (sent snapshot.changes))

pub record BeginsReply (own : List ℕ) (n : Nack) (before : Place) (messages : List (List ℕ)) : Type 0 where
  pub at : ℕ
  pub is_for : IsFor before.run.plan n at
  pub s : Sending
  pub session : IsSessionBy (session_for before.replays n.reader) own n before s
  pub begins : SessionBegins s n.set messages

-- the first messages of what ACKNACKs call for
abbrev pub NacksBegin : List ℕ → List Nack → Place → List (List ℕ) → Type 0
NacksBegin own [] before messages = messages ≡ []
NacksBegin own (n ∷ ns) before messages =
    (messages ≡ []) ⊎ (BeginsReply own n before messages
    ⊎ ((now : List (List ℕ)) × (later : List (List ℕ)) × (mid : Place)
    × NackCalls own n before now mid × NacksBegin own ns mid later × (messages ≡ now ++ later)))

-- The text of the first messages of what a record calls for: some acknowledgements, or all and what the ACKNACKs begin to call for.
pub record BeginsReplies (own : List ℕ) (port : ℕ) (acks : List Ack) (ns : List Nack) (before : Place) (text : List ℕ) : Type 0 where
  pub count : ℕ
  pub messages : List (List ℕ)
  pub first : (messages ≡ []) ⊎ ((take count acks ≡ acks) × NacksBegin own ns before messages)
  pub text_is : text ≡ records_text before.run.moment port (map (ack_message own) (take count acks) ++ messages)

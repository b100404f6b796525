-- Which reader gets a snapshot, and what stands in it (DDS 2.2.3.4, DURABILITY).
use Rattle.std.specs.Prelude.{◌≡◌, ℕ, Bool, ◌&&◌, if◌then◌else◌, not, nat_le, false, ◌<◌, length, Ok, Err, Option, Some, None, option_map, unwrap_or, slice_get, List, find}
use Rattle.std.specs.declared.result.Result.{Result}
use Rattle.dur_qos.specs.declared.plan.Plan.{Plan}
use Rattle.dur_qos.specs.declared.plan.Topic.{Topic}
use Rattle.dur_qos.specs.declared.plan.ReaderLine.{ReaderLine}
use Rattle.dur_qos.specs.Served.{rank}
use Rattle.dur_view.specs.Identities.{Guid}
use Rattle.dur_view.specs.declared.change.Change.{Change}
use Rattle.dur_view.specs.Words.{is_same}
use Rattle.dur_view.specs.History.{start}
use Rattle.dur_view.specs.Full.{topic_place, places_of}
use Rattle.dur_view.specs.Past.{past}
use Rattle.dur_view.specs.Snapshot.{snap}
use Rattle.dur_hub.specs.declared.reply.SnapFault.{SnapFault}
use Rattle.dur_hub.specs.declared.reply.SnapFault.TheVariants.{Unknown, NotServed, Already}
use Rattle.dur_hub.specs.Runs.{Run}
use Rattle.dur_hub.specs.Leases.{is_among}

-- the line of a reader, if the plan has one
abbrev pub line_of : List ReaderLine → Guid → Option ReaderLine
line_of lines g = find (λ (line : ReaderLine). is_same line.guid g) lines

abbrev pub reader_line : Plan → Guid → Option ReaderLine
reader_line plan g = line_of plan.readers g

-- whether a reader requests transient or persistent samples, and the topic's kind is at least that
abbrev pub is_served : ReaderLine → Topic → Bool
is_served line topic = nat_le 2 (rank line.kind) && nat_le (rank line.kind) (rank topic.kind)

-- whether its topic of the plan is one that serves it
abbrev pub is_served_in : Plan → ReaderLine → Bool
is_served_in plan line =
    unwrap_or (option_map (is_served line) (slice_get plan.topics line.topic)) false

abbrev pub refusal_by : Plan → List Guid → Guid → Option ReaderLine → Option SnapFault
refusal_by plan given g None = Some Unknown
refusal_by plan given g (Some line) =
    if not (is_served_in plan line) then Some NotServed else (if is_among g given then Some Already else None)

-- Why a reader gets no snapshot: the plan has no such reader, it is not served, or it is one of those that were given one.
abbrev pub refusal : Plan → List Guid → Guid → Option SnapFault
refusal plan given g = refusal_by plan given g (reader_line plan g)

-- what is entitled at a moment in the topic at a place of the plan
abbrev pub listing : Run → ℕ → ℕ → List Change
listing r t now = snap (past (topic_place r.plan (start r.history).topics t) r.history) now

abbrev pub replay_by : Run → Option ReaderLine → List Change → Type 0
replay_by r None changes = ⊥
replay_by r (Some line) changes = changes ≡ listing r line.topic r.moment

-- The snapshot of a reader is what is entitled in its topic at the run's moment.
abbrev pub IsReplay : Run → Guid → List Change → Type 0
IsReplay r g changes = replay_by r (reader_line r.plan g) changes

-- These are the places of a plan's topics in a view, and it has them all.
pub record PlacesFit (plan : Plan) (topics : List Topic) (places : List ℕ) : Type 0 where
  pub each : places ≡ places_of plan topics
  pub within : (t : ℕ) → t < length plan.topics → topic_place plan topics t < length topics

-- the topic whose changes a reader gets, or why it gets none
abbrev pub MayReplay : Plan → List Guid → Guid → Result ℕ SnapFault → Type 0
MayReplay plan given g (Ok topic) =
    (refusal plan given g ≡ None) × (topic < length plan.topics)
    × ((line : ReaderLine) × (reader_line plan g ≡ Some line) × (topic ≡ line.topic))
MayReplay plan given g (Err f) = refusal plan given g ≡ Some f

-- What a DATA of discovery announces (DDSI-RTPS 8.5.3, 8.5.4).
use Rattle.std.specs.Prelude.{◌≡◌, ◌≢◌, ◌⊎◌, ℕ, List, take, drop, Option, Some, None, if◌then◌else◌}
use Rattle.std.specs.Str.{bytes_eq}
use Rattle.dur_base.specs.declared.sample.Raw.{Raw}
use Rattle.dur_qos.specs.declared.plan.Plan.{Plan}
use Rattle.dur_qos.specs.declared.plan.Topic.{Topic}
use Rattle.rtps_discovery.specs.declared.announcement.Announcement.{Announcement}
use Rattle.rtps_discovery.specs.declared.announcement.Announcement.TheVariants.{Participant, Writer, Reader, Gone}
use Rattle.rtps_discovery.specs.declared.list.Listed.{Listed}
use Rattle.rtps_discovery.specs.declared.source.Source.{Source}
use Rattle.rtps_discovery.specs.declared.source.Source.TheVariants.{Participants, Publications, Subscriptions}
use Rattle.rtps_discovery.specs.Sources.{id_of, participant_id}
use Rattle.rtps_discovery.specs.Lists.{PayloadTells}

-- whom it is about
abbrev pub guid_of : Announcement → List ℕ
guid_of (Participant guid lease) = guid
guid_of (Writer guid topic kind) = guid
guid_of (Reader guid topic kind) = guid
guid_of (Gone guid) = guid

-- the GUID of the participant, or of the writer or reader, in the payload of that builtin writer
abbrev pub subject : Source → Listed → Option (List ℕ)
subject Participants l = l.participant
subject Publications l = l.endpoint
subject Subscriptions l = l.endpoint

-- a participant has a GUID that ends as a participant's does
abbrev pub participant : Option (List ℕ) → Option ℕ → Option Announcement
participant None lease = None
participant (Some guid) lease = if bytes_eq (drop 12 guid) participant_id then Some (Participant guid lease) else None

-- a writer or a reader has a GUID and a topic of the plan
abbrev pub endpoint : (List ℕ → ℕ → Announcement) → Option (List ℕ) → Option ℕ → Option Announcement
endpoint of None topic = None
endpoint of (Some guid) None = None
endpoint of (Some guid) (Some topic) = Some (of guid topic)

-- what the payload of that builtin writer says to be there
abbrev pub present : Source → Listed → Option Announcement
present Participants l = participant l.participant l.lease
present Publications l = endpoint (λ guid topic. Writer guid topic l.kind) l.endpoint l.topic
present Subscriptions l = endpoint (λ guid topic. Reader guid topic l.kind) l.endpoint l.topic

-- the inline key hash is the GUID of what leaves, or else the payload tells it
abbrev pub Leaves : List Topic → Source → Option (List ℕ) → List ℕ → List ℕ → Type 0
Leaves topics source (Some hash) payload guid = hash ≡ guid
Leaves topics source None payload guid = (l : Listed) × PayloadTells topics payload l × (subject source l ≡ Some guid)

-- with status 0 the payload tells what is there, with another status something leaves
abbrev pub Says : List Topic → Source → Raw → Announcement → Type 0
Says topics source raw a =
    ((raw.status ≡ 0) × (l : Listed) × PayloadTells topics raw.payload l × (present source l ≡ Some a))
    ⊎ ((raw.status ≢ 0) × (guid : List ℕ) × Leaves topics source raw.hash raw.payload guid × (a ≡ Gone guid))

-- a builtin writer announces it, of its own participant
pub record Announces (plan : Plan) (writer : List ℕ) (raw : Raw) (a : Announcement) : Type 0 where
  pub source : Source
  pub from : drop 12 writer ≡ id_of source
  pub says : Says plan.topics source raw a
  pub own : take 12 (guid_of a) ≡ take 12 writer

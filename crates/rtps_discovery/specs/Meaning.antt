-- What the parameters of a list tell together.
use Rattle.std.specs.Prelude.{ℕ, ◌*◌, ◌^◌, List, [], ◌∷◌, Option, Some, None}
use Rattle.std.specs.Option.{option_or, unwrap_or}
use Rattle.dur_base.specs.declared.kinds.Durability.{Durability}
use Rattle.dur_base.specs.declared.kinds.Durability.TheVariants.{Volatile}
use Rattle.rtps_discovery.specs.declared.list.Listed.{Listed}
use Rattle.rtps_discovery.specs.declared.parameter.Parameter.{Parameter}
use Rattle.rtps_discovery.specs.declared.parameter.Parameter.TheVariants.{Lease, Topic, Kind, Participant, Endpoint, Passed}

-- ---- what one parameter tells of each field

abbrev pub lease_in : Parameter → Option (Option ℕ)
lease_in (Lease ticks) = Some ticks
lease_in _ = None

abbrev pub topic_in : Parameter → Option (Option ℕ)
topic_in (Topic place) = Some place
topic_in _ = None

abbrev pub kind_in : Parameter → Option Durability
kind_in (Kind kind) = Some kind
kind_in _ = None

abbrev pub participant_in : Parameter → Option (List ℕ)
participant_in (Participant guid) = Some guid
participant_in _ = None

abbrev pub endpoint_in : Parameter → Option (List ℕ)
endpoint_in (Endpoint guid) = Some guid
endpoint_in _ = None

-- ---- what all of them tell

-- a repeated parameter counts the last time
abbrev pub last_of : {A : Type 0} → (Parameter → Option A) → List Parameter → Option A
last_of f [] = None
last_of f (p ∷ ps) = option_or (last_of f ps) (f p)

-- what no parameter tells: 100 seconds, no topic, VOLATILE, no GUID
unfoldable pub listed_of : List Parameter → Listed
listed_of ps = record {
  lease = unwrap_or (last_of lease_in ps) (Some (100 * 2 ^ 32));
  topic = unwrap_or (last_of topic_in ps) None;
  kind = unwrap_or (last_of kind_in ps) Volatile;
  participant = last_of participant_in ps;
  endpoint = last_of endpoint_in ps;
}

-- the same after one parameter more
abbrev pub with_parameter : Listed → Parameter → Listed
with_parameter l (Lease ticks) = record l { lease = ticks }
with_parameter l (Topic place) = record l { topic = place }
with_parameter l (Kind kind) = record l { kind = kind }
with_parameter l (Participant guid) = record l { participant = Some guid }
with_parameter l (Endpoint guid) = record l { endpoint = Some guid }
with_parameter l Passed = l

-- The parameters of a payload that are looked at (DDSI-RTPS 9.6.3): what each value tells, or None where the value is
-- bad. Octets past the named ones are not looked at.
use Rattle.std.specs.Prelude.{ℕ, ◌+◌, ◌*◌, ◌-◌, ◌^◌, Bool, ◌==◌, List, length, take, drop, slice_index, Option, Some, None, option_map, nat_lt, nat_le, if◌then◌else◌}
use Rattle.std.specs.Int.{w32}
use Rattle.dur_base.specs.declared.kinds.Durability.{Durability}
use Rattle.dur_base.specs.declared.kinds.Durability.TheVariants.{Volatile, TransientLocal, Transient, Persistent}
use Rattle.dur_base.specs.Fields.{number}
use Rattle.dur_qos.specs.declared.plan.Topic.{Topic as TopicLine}
use Rattle.dur_qos.specs.Plan.{place_of}
use Rattle.rtps_discovery.specs.declared.parameter.Parameter.{Parameter}
use Rattle.rtps_discovery.specs.declared.parameter.Parameter.TheVariants.{Lease, Topic, Kind, Participant, Endpoint, Passed}

-- 0002 PID_PARTICIPANT_LEASE_DURATION: i32 seconds, u32 fraction. Bad: shorter than 8, seconds below 0. Seconds of
-- 7fffffff are infinite.
unfoldable pub lease_at : Bool → List ℕ → Option Parameter
lease_at little value =
    let seconds = number little w32 (take 4 value) in
    let fraction = number little w32 (take 4 (drop 4 value)) in
    if nat_lt (length value) 8 then None
    else if nat_le (2 ^ 31) seconds then None
    else if seconds == 0x7fffffff then Some (Lease None)
    else Some (Lease (Some (seconds * 2 ^ 32 + fraction)))

-- a place of 32 bits, as the lines of a plan have it
abbrev pub within_32 : Option ℕ → Option ℕ
within_32 None = None
within_32 (Some place) = if nat_lt place (2 ^ 32) then Some place else None

-- the place of the topic with that name
abbrev pub place_at : List TopicLine → List ℕ → Option ℕ
place_at topics name = within_32 (place_of name topics)

-- 0005 PID_TOPIC_NAME: u32 length with the closing 00, that many octets, padding. Bad: shorter than 4, length 0, octets
-- that do not fit, a last one that is not 00.
unfoldable pub topic_at : List TopicLine → Bool → List ℕ → Option Parameter
topic_at topics little value =
    let len = number little w32 (take 4 value) in
    let text = drop 4 value in
    if nat_lt (length value) 4 then None
    else if len == 0 then None
    else if nat_lt (length text) len then None
    else if slice_index text (len - 1) == 0 then Some (Topic (place_at topics (take (len - 1) text)))
    else None

abbrev pub kind_of : ℕ → Option Durability
kind_of n =
    if n == 0 then Some Volatile
    else if n == 1 then Some TransientLocal
    else if n == 2 then Some Transient
    else if n == 3 then Some Persistent
    else None

-- 001d PID_DURABILITY: u32. Bad: shorter than 4, above 3.
unfoldable pub kind_at : Bool → List ℕ → Option Parameter
kind_at little value = if nat_lt (length value) 4 then None else option_map Kind (kind_of (number little w32 (take 4 value)))

-- 16 octets. Bad: shorter.
abbrev pub guid_at : List ℕ → Option (List ℕ)
guid_at value = if nat_lt (length value) 16 then None else Some (take 16 value)

-- What a parameter of that id tells. 0050 PID_PARTICIPANT_GUID and 005a PID_ENDPOINT_GUID are GUIDs. Every other id is
-- passed over, also with bit 4000.
unfoldable pub parameter_at : List TopicLine → Bool → ℕ → List ℕ → Option Parameter
parameter_at topics little id value =
    if id == 0x0002 then lease_at little value
    else if id == 0x0005 then topic_at topics little value
    else if id == 0x001d then kind_at little value
    else if id == 0x0050 then option_map Participant (guid_at value)
    else if id == 0x005a then option_map Endpoint (guid_at value)
    else Some Passed

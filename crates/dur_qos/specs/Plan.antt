-- What the lines of a plan add up to.
use Rattle.std.specs.Prelude.{ℕ, ◌+◌, Bool, true, false, List, [], ◌∷◌, ◌++◌, length, Some, None, Ok, Err, if◌then◌else◌, nat_lt, nat_le}
use Rattle.std.specs.Str.{bytes_eq}
use Rattle.std.specs.Option.{is_some}
use Rattle.std.specs.declared.option.Option.{Option}
use Rattle.std.specs.declared.result.Result.{Result}
use Rattle.dur_base.specs.declared.kinds.Durability.{Durability}
use Rattle.dur_qos.specs.declared.plan.Topic.{Topic}
use Rattle.dur_qos.specs.declared.line.Line.{Line}
use Rattle.dur_qos.specs.declared.line.Line.TheVariants as line
use Rattle.dur_qos.specs.declared.fault.PlanKind.{PlanKind}
use Rattle.dur_qos.specs.declared.fault.PlanKind.TheVariants.{Twice, UnknownTopic, DepthAboveLimit, TooMany}
use Rattle.dur_qos.specs.declared.plan.Plan.{Plan}
use Rattle.dur_qos.specs.declared.plan.WriterLine.{WriterLine}
use Rattle.dur_qos.specs.declared.plan.ReaderLine.{ReaderLine}

-- the place of the topic with this name, where the first has the place i
abbrev pub place_from : ℕ → List ℕ → List Topic → Option ℕ
place_from i name [] = None
place_from i name (t ∷ ts) = if bytes_eq name t.name then Some i else place_from (i + 1) name ts

abbrev pub place_of : List ℕ → List Topic → Option ℕ
place_of name topics = place_from 0 name topics

-- a GUID stands among the writers, or among the readers
abbrev pub has_writer : List ℕ → List WriterLine → Bool
has_writer guid [] = false
has_writer guid (w ∷ ws) = if bytes_eq guid w.guid then true else has_writer guid ws

abbrev pub has_reader : List ℕ → List ReaderLine → Bool
has_reader guid [] = false
has_reader guid (r ∷ rs) = if bytes_eq guid r.guid then true else has_reader guid rs

-- a depth is above a limit, where both are there
abbrev pub is_above : Option ℕ → Option ℕ → Bool
is_above (Some depth) (Some limit) = nat_lt limit depth
is_above (Some depth) None = false
is_above None limit = false

-- ---- a line of good words is added, or the first of these faults is told: Twice, UnknownTopic, DepthAboveLimit, TooMany
unfoldable pub add_topic : Plan → Topic → Result Plan PlanKind
add_topic plan t =
    if is_some (place_of t.name plan.topics) then Err Twice
    else if is_above t.depth t.max_per_instance then Err DepthAboveLimit
    else if nat_le 1024 (length plan.topics) then Err TooMany
    else Ok (record plan { topics = plan.topics ++ t ∷ [] })

abbrev pub writer_to : Plan → List ℕ → Option ℕ → Option ℕ → Result Plan PlanKind
writer_to plan guid lease None = Err UnknownTopic
writer_to plan guid lease (Some i) = if nat_le 4096 (length plan.writers) then Err TooMany else Ok (record plan { writers = plan.writers ++ record { guid = guid; topic = i; lease = lease } ∷ [] })

unfoldable pub add_writer : Plan → List ℕ → List ℕ → Option ℕ → Result Plan PlanKind
add_writer plan guid topic lease = if has_writer guid plan.writers then Err Twice else writer_to plan guid lease (place_of topic plan.topics)

abbrev pub reader_to : Plan → List ℕ → Durability → Option ℕ → Result Plan PlanKind
reader_to plan guid kind None = Err UnknownTopic
reader_to plan guid kind (Some i) = if nat_le 1024 (length plan.readers) then Err TooMany else Ok (record plan { readers = plan.readers ++ record { guid = guid; topic = i; kind = kind } ∷ [] })

unfoldable pub add_reader : Plan → List ℕ → List ℕ → Durability → Result Plan PlanKind
add_reader plan guid topic kind = if has_reader guid plan.readers then Err Twice else reader_to plan guid kind (place_of topic plan.topics)

-- a line after the first is added
abbrev pub add : Plan → Line → Result Plan PlanKind
add plan (line.Prefix p) = Err Twice
add plan (line.Topic t) = add_topic plan t
add plan (line.Writer guid topic lease) = add_writer plan guid topic lease
add plan (line.Reader guid topic kind) = add_reader plan guid topic kind
add plan line.End = Ok plan

-- how many lines a plan has between the first and the last
abbrev pub total : Plan → ℕ
total plan = length plan.topics + length plan.writers + length plan.readers

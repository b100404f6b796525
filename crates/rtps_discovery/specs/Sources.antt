-- The builtin writers that announce (DDSI-RTPS 8.5.3, 8.5.4), and their ids (9.3.1.3).
use Rattle.std.specs.Prelude.{ℕ, List, [], ◌∷◌, ◌++◌, take, Option, Some, None, if◌then◌else◌}
use Rattle.std.specs.Str.{bytes_eq}
use Rattle.rtps_discovery.specs.declared.source.Source.{Source}
use Rattle.rtps_discovery.specs.declared.source.Source.TheVariants.{Participants, Publications, Subscriptions}

abbrev pub id_of : Source → List ℕ
id_of Participants = 0 ∷ 1 ∷ 0 ∷ 0xc2 ∷ []
id_of Publications = 0 ∷ 0 ∷ 3 ∷ 0xc2 ∷ []
id_of Subscriptions = 0 ∷ 0 ∷ 4 ∷ 0xc2 ∷ []

-- the builtin writer with that id
abbrev pub source_of : List ℕ → Option Source
source_of id =
    if bytes_eq id (id_of Participants) then Some Participants
    else if bytes_eq id (id_of Publications) then Some Publications
    else if bytes_eq id (id_of Subscriptions) then Some Subscriptions
    else None

-- how a participant's GUID ends
abbrev pub participant_id : List ℕ
participant_id = 0 ∷ 0 ∷ 1 ∷ 0xc1 ∷ []

-- the participant of an entity
abbrev pub participant_of : List ℕ → List ℕ
participant_of guid = take 12 guid ++ participant_id

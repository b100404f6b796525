-- What is known of each announcement.
use Rattle.std.specs.Prelude.{◌≡◌, take, drop}
use Rattle.rtps_discovery.specs.declared.announcement.Told.{Told}
use Rattle.rtps_discovery.specs.declared.source.Source.{Source}
use Rattle.rtps_discovery.specs.Learnt.{about}
use Rattle.rtps_discovery.specs.Sources.{id_of}

-- its writer is a builtin writer of its own participant
abbrev pub IsOwn : Told → Type 0
IsOwn t = (source : Source) × (drop 12 t.writer ≡ id_of source) × (take 12 (about t) ≡ take 12 t.writer)

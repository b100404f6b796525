-- The lines that a directory gives, entry by entry.
use Rattle.std.specs.Prelude.{ℕ, ◌+◌, Bool, true, false, List, ◌-◌, ◌^◌, min, Option, Some, None, nat_lt, nat_le, slice_get, if◌then◌else◌}
use Rattle.std.specs.BTreeMap.{get}
use Rattle.std.specs.Cmp.Lexicographic.{slice_cmp}
use Rattle.std.specs.Ordering.{nat_cmp}
use Rattle.dur_base.specs.declared.kinds.Durability.{Durability}
use Rattle.dur_qos.specs.declared.plan.Plan.{Plan}
use Rattle.dur_qos.specs.declared.plan.Topic.{Topic}
use Rattle.dur_qos.specs.declared.plan.WriterLine.{WriterLine}
use Rattle.dur_qos.specs.declared.plan.ReaderLine.{ReaderLine}
use Rattle.dur_qos.specs.Plan.{has_writer, has_reader}
use Rattle.dur_qos.specs.Served.{rank}
use Rattle.rtps_discovery.specs.declared.announcement.Announcement.{Announcement}
use Rattle.rtps_discovery.specs.declared.announcement.Announcement.TheVariants.{Participant, Writer, Reader, Gone}
use Rattle.rtps_discovery.specs.declared.directory.Directory.{Directory}
use Rattle.rtps_discovery.specs.declared.entry.Entry.{Entry}
use Rattle.rtps_discovery.specs.Learnt.{seconds_of}
use Rattle.rtps_discovery.specs.Sources.{participant_of}

-- the moment lies within a lease that began then
abbrev pub is_within : Option ℕ → ℕ → ℕ → Bool
is_within None began now = true
is_within (Some ticks) began now = nat_le now (began + ticks)

-- the lease of a participant that announced itself last, which holds still, and which did not leave after that place
abbrev pub lease_in : Announcement → Entry → ℕ → ℕ → Option (Option ℕ)
lease_in (Participant guid lease) e place now =
    if nat_lt place e.farewell then None else if is_within lease e.moment now then Some lease else None
lease_in (Writer guid topic kind) e place now = None
lease_in (Reader guid topic kind) e place now = None
lease_in (Gone guid) e place now = None

abbrev pub lease_of : Option Entry → ℕ → ℕ → Option (Option ℕ)
lease_of None place now = None
lease_of (Some e) place now = lease_in e.last e place now

-- the lease of the participant of an endpoint that was announced at that place, where it is alive
abbrev pub lease_at : Directory → List ℕ → ℕ → ℕ → Option (Option ℕ)
lease_at d guid place now = lease_of (get (slice_cmp nat_cmp) d.entries (participant_of guid)) place now

-- the seconds of a lease, as far as 32 bits go
abbrev pub lease_line : Option ℕ → Option ℕ
lease_line None = None
lease_line (Some ticks) = Some (min (seconds_of ticks) (2 ^ 32 - 1))

abbrev pub writer_with : List ℕ → ℕ → Option (Option ℕ) → Option WriterLine
writer_with guid topic None = None
writer_with guid topic (Some lease) = Some (record { guid = guid; topic = topic; lease = lease_line lease })

-- a topic takes writers of its kind and above
abbrev pub takes : Option Topic → Durability → Bool
takes None kind = false
takes (Some topic) kind = nat_le (rank topic.kind) (rank kind)

abbrev pub writer_in : Announcement → Plan → Directory → ℕ → ℕ → Option WriterLine
writer_in (Writer guid topic kind) plan d place now =
    if takes (slice_get plan.topics topic) kind then (if has_writer guid plan.writers then None else writer_with guid topic (lease_at d guid place now))
    else None
writer_in (Participant guid lease) plan d place now = None
writer_in (Reader guid topic kind) plan d place now = None
writer_in (Gone guid) plan d place now = None

abbrev pub reader_with : List ℕ → ℕ → Durability → Option (Option ℕ) → Option ReaderLine
reader_with guid topic kind None = None
reader_with guid topic kind (Some lease) = Some (record { guid = guid; topic = topic; kind = kind })

abbrev pub reader_in : Announcement → Plan → Directory → ℕ → ℕ → Option ReaderLine
reader_in (Reader guid topic kind) plan d place now =
    if has_reader guid plan.readers then None else reader_with guid topic kind (lease_at d guid place now)
reader_in (Participant guid lease) plan d place now = None
reader_in (Writer guid topic kind) plan d place now = None
reader_in (Gone guid) plan d place now = None

-- the line of an entry, where it gives one
abbrev pub writer_at : Plan → Directory → ℕ → Entry → Option WriterLine
writer_at plan d now e = writer_in e.last plan d e.place now

abbrev pub reader_at : Plan → Directory → ℕ → Entry → Option ReaderLine
reader_at plan d now e = reader_in e.last plan d e.place now

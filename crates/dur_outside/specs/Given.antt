-- What contracts see of the objects in memory and of the adapters.
use Rattle.std.specs.Prelude.{ℕ, Bool, ◌-◌, ◌≤◌, List, ◌++◌, length, take, replicate, Option, None, IfSome}
use Rattle.std.specs.declared.fs.File.{File}
use Rattle.dur_outside.specs.declared.change.Change.{Change}
use Rattle.dur_outside.specs.declared.values.FileId.{FileId}
use Rattle.dur_outside.specs.declared.values.FileId.TheVariants.{Zero, One}
use Rattle.dur_outside.specs.Causes.{faults_after}
use Rattle.dur_outside.specs.Calls.{GivenCalls}
use Rattle.dur_outside.specs.Memory.{GivenDisk}

-- what is left to be read
pub record GivenSource : Type 0 where
  pub left : List ℕ
  pub calls : GivenCalls

-- what was written, and in which pieces, the latest first
pub record GivenSink : Type 0 where
  pub written : List ℕ
  pub past : List Change
  pub calls : GivenCalls

-- a disk and a sink
pub record GivenRig : Type 0 where
  pub disk : GivenDisk
  pub sink : GivenSink

-- the datagrams to be heard, how many calls of `receive` were answered, and what was sent
pub record GivenLink : Type 0 where
  pub given : List (Option (List ℕ))
  pub answers : ℕ
  pub sent : List (List ℕ)
  pub calls : GivenCalls

-- the first answers of a link that is given these, and then hears nothing
abbrev pub heard_of : List (Option (List ℕ)) → ℕ → List (Option (List ℕ))
heard_of given count = take count given ++ replicate (count - length given) None

-- a datagram of at most so many octets, or none
abbrev pub IsWithin : ℕ → Option (List ℕ) → Type 0
IsWithin most given = IfSome given (λ octets. length octets ≤ most)

-- what a reader is known to have left, and the faults
pub record GivenReader : Type 0 where
  pub left : Option (List ℕ)
  pub faults : ℕ

-- the two files of a disk of the system, and its faults
pub record GivenFiles : Type 0 where
  pub zero : File
  pub one : File
  pub faults : ℕ

-- that file
abbrev pub file_of : FileId → GivenFiles → File
file_of Zero d = d.zero
file_of One d = d.one

-- such a disk after a call that failed or did not
abbrev pub files_after : Bool → GivenFiles → GivenFiles
files_after failed d = record d { faults = faults_after failed d.faults }

-- such a disk, and the faults of a sink
pub record GivenFileRig : Type 0 where
  pub disk : GivenFiles
  pub sink : ℕ

-- the faults of a disk and of a sink
pub record GivenFaults : Type 0 where
  pub disk : ℕ
  pub sink : ℕ

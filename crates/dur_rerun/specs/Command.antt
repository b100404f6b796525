-- What a command promises of a run, whatever it answers.
use Rattle.std.specs.Prelude.{◌≡◌, ◌⊎◌, ℕ, List, [], Ok, Err}
use Rattle.std.specs.declared.option.Option.{Option}
use Rattle.std.specs.declared.result.Result.{Result}
use Rattle.std.specs.Io.KnownBytes.{IsAtEnd}
use Rattle.dur_outside.specs.World.{Image}
use Rattle.dur_outside.specs.Causes.{Rose}
use Rattle.dur_rerun.specs.declared.status.Status.{Status}
use Rattle.dur_rerun.specs.declared.status.Status.TheVariants.{Done, Usage, OutOfMemory, Input, ReadFault, WriteFault, DiskFault, Plan, NotAJournal, PlanDiffers, Full, Worn, TooMany}
use Rattle.dur_rerun.specs.Input.Whole.{IsWholeInput}
use Rattle.dur_rerun.specs.Saying.{IsSaid, wrote}

-- What a command answers: an input, the text for it, and the status. Where a fault of the source, of the sink or of the
-- disk or want of memory cut the run short, the text is that of what was read.
abbrev pub Answers : Type 1
Answers = List ℕ → List ℕ → Status → Type 0

-- the status says what the input and the files call for; the other ones cut a run short
abbrev pub IsTold : Status → Type 0
IsTold Done = Unit {0}
IsTold (Input place fault) = Unit {0}
IsTold (Plan line kind) = Unit {0}
IsTold (NotAJournal file place) = Unit {0}
IsTold (PlanDiffers name) = Unit {0}
IsTold (Full size) = Unit {0}
IsTold Worn = Unit {0}
IsTold TooMany = Unit {0}
IsTold Usage = ⊥
IsTold OutOfMemory = ⊥
IsTold ReadFault = ⊥
IsTold WriteFault = ⊥
IsTold DiskFault = ⊥

-- the input was read to its end, and no fault of it was found
abbrev pub IsRead : Status → Type 0
IsRead Done = Unit {0}
IsRead TooMany = Unit {0}
IsRead other = ⊥

-- what became of a run that ends early by an error
abbrev pub status_of : Result (Unit {0}) Status → Status
status_of (Ok done) = Done
status_of (Err status) = status

-- An input has one answer.
pub record IsFunction (answers : List ℕ → List ℕ → Status → Type 0) : Type 0 where
  -- one text and one status that says what it calls for
  pub once : (input t u : List ℕ) (s r : Status) → IsTold s → IsTold r → answers input t s → answers input u r → (t ≡ u) × (s ≡ r)
  -- with that of a whole input it was read to its end
  pub whole : (input t : List ℕ) (s : Status) → IsWholeInput input → IsTold s → answers input t s → IsRead s
  -- a write fails only where there is something to write
  pub writes : (input t : List ℕ) (s : Status) → IsTold s → answers input t WriteFault → answers input [] s → ⊥
  -- a command line is read before any command
  pub words : (input t : List ℕ) → answers input t Usage → ⊥
  -- no file is read
  pub files : (input t : List ℕ) → answers input t DiskFault → ⊥

-- Each status has its reason.
pub record HasReason (Ends : Status → Type 0) (s : Status) (left : Option (List ℕ)) (reads reads_now writes writes_now : ℕ) : Type 0 where
  -- it is one with which the command ends
  pub ends : Ends s
  -- the input was read to its end
  pub done : s ≡ Done → IsAtEnd left
  -- a read failed
  pub read : s ≡ ReadFault → Rose reads reads_now
  -- a write failed
  pub write : s ≡ WriteFault → Rose writes writes_now

-- Where no count rose, the answer comes, or want of memory.
pub record Arrives (gives : List ℕ → List ℕ → Status → Type 0) (input : List ℕ) (s : Status) (reads reads_now writes writes_now : ℕ) : Type 0 where
  -- no read and no write failed
  pub answer : (text : List ℕ) (a : Status) → IsTold a → gives input text a → (Rose reads reads_now → ⊥) → (Rose writes writes_now → ⊥) → (s ≡ a) ⊎ (s ≡ OutOfMemory)
  -- the same, and the input is the text of a plan and a capture
  pub whole : IsWholeInput input → (Rose reads reads_now → ⊥) → (Rose writes writes_now → ⊥) → IsRead s ⊎ (s ≡ OutOfMemory)
  -- no read failed, and there is nothing to write
  pub silent : (a : Status) → IsTold a → gives input [] a → (Rose reads reads_now → ⊥) → (s ≡ a) ⊎ (s ≡ OutOfMemory)

-- What went out is all of the text, or a front. The input is octets, or what else a command reads.
pub record GoesOut {I : Type 0} (gives : I → List ℕ → Status → Type 0) (input : I) (s : Status) (tells : Type 0) (old new : Image) : Type 0 where
  pub text : List ℕ
  -- it is the text for the input, and the status is that of the run
  pub answers : gives input text s
  -- all of it, where the run was not cut short
  pub all : IsTold s → tells → new ≡ wrote text old
  -- and else a front of it
  pub front : tells → IsSaid text old new

-- What is untouched.
pub record Keeps (tells : Type 0) (old new : Image) (disk disk_now : ℕ) : Type 0 where
  -- nothing but a text to the sink was written
  pub files : tells → (text : List ℕ) × (new ≡ wrote text old)
  -- no call on a file failed
  pub faults : disk_now ≡ disk

-- What the command `check` promises of a run.
use Rattle.std.specs.Prelude.{◌≡◌, ◌⊎◌, ℕ, List, [], ◌++◌, Some, None}
use Rattle.std.specs.declared.option.Option.{Option}
use Rattle.dur_outside.specs.declared.values.FileId.{FileId}
use Rattle.dur_outside.specs.declared.values.FileId.TheVariants.{Zero, One}
use Rattle.dur_outside.specs.World.{Image}
use Rattle.dur_outside.specs.Causes.{Rose}
use Rattle.dur_rerun.specs.declared.check.looks.Looks.{Looks}
use Rattle.dur_rerun.specs.declared.status.Status.{Status}
use Rattle.dur_rerun.specs.declared.status.Status.TheVariants.{Done, OutOfMemory, WriteFault, DiskFault, NotAJournal}
use Rattle.dur_rerun.specs.Check.Line.{file_line}
use Rattle.dur_rerun.specs.Check.Looks.{AreLooks, first_broken, prints_changes, PrintsChanges}

-- The text for two files, of which that is the first broken one, if any.
pub record Checks (files : Image) (text : List ℕ) (broken : Option (FileId × ℕ)) : Type 0 where
  -- what each file is by itself
  pub looks : Looks
  pub are : AreLooks files looks
  pub first : broken ≡ first_broken looks
  -- a line for each file, and behind them the changes that both keep
  pub changes : List ℕ
  pub prints : PrintsChanges files (prints_changes looks) changes
  pub text_is : text ≡ file_line Zero looks.zero ++ file_line One looks.one ++ changes

-- The text for the files; nothing is written before all of it is known.
abbrev pub CheckAnswers : Image → List ℕ → Status → Type 0
CheckAnswers files text Done = Checks files text None
CheckAnswers files text (NotAJournal file at) = Checks files text (Some (file, at))
CheckAnswers files text WriteFault = (broken : Option (FileId × ℕ)) × Checks files text broken
CheckAnswers files text DiskFault = text ≡ []
CheckAnswers files text OutOfMemory = text ≡ []
CheckAnswers files text other = ⊥

-- the status that the first broken file calls for
abbrev pub found : Option (FileId × ℕ) → Status
found None = Done
found (Some broken) = NotAJournal broken.0 broken.1

-- with this status the command ends
abbrev pub CheckEnds : Status → Type 0
CheckEnds Done = Unit {0}
CheckEnds OutOfMemory = Unit {0}
CheckEnds WriteFault = Unit {0}
CheckEnds DiskFault = Unit {0}
CheckEnds (NotAJournal file at) = Unit {0}
CheckEnds other = ⊥

-- Each status has its reason.
pub record HasCheckReason (s : Status) (disks disks_now writes writes_now : ℕ) : Type 0 where
  -- it is one with which the command ends
  pub ends : CheckEnds s
  -- a call on a file failed
  pub disk : s ≡ DiskFault → Rose disks disks_now
  -- a write failed
  pub write : s ≡ WriteFault → Rose writes writes_now

-- Where no call failed the status is that of the first broken file, or memory ran out. Nothing else is read.
abbrev pub IsComplete : Image → Status → ℕ → ℕ → ℕ → ℕ → Type 0
IsComplete files s disks disks_now writes writes_now =
    (looks : Looks) → AreLooks files looks → (Rose disks disks_now → ⊥) → (Rose writes writes_now → ⊥)
    → (s ≡ found (first_broken looks)) ⊎ (s ≡ OutOfMemory)

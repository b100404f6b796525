-- The lines of each top call, and what each of them answers.
use Rattle.std.specs.Prelude.{◌≡◌, ℕ, List, Some}
use Rattle.std.specs.declared.option.Option.{Option}
use Rattle.dur_outside.specs.World.{Image, World}
use Rattle.dur_rerun.specs.declared.status.Status.{Status}
use Rattle.dur_rerun.specs.Command.{GoesOut}
use Rattle.dur_rerun.specs.Check.Answer.{CheckAnswers, HasCheckReason, IsComplete}
use Rattle.dur_rerun.specs.Input.Whole.{IsWholeInput}
use Rattle.dur_rerun.specs.Learn.Answer.{LearnAnswers, LearnEnds}
use Rattle.dur_rerun.specs.List.Answer.{ListAnswers, ListEnds}
use Rattle.dur_rerun.specs.Rerun.Answer.{Reruns, HasCauses, NoneRose, IsComplete as IsRerunComplete}
use Rattle.dur_rerun.specs.Show.Answer.{ShowAnswers, ShowEnds}
use Rattle.rel_writer.specs.LateReaders.{Late, fresh}
use Rattle.durability.specs.declared.words.Line.{Line}
use Rattle.durability.specs.declared.words.Line.TheVariants as line
use Rattle.durability.specs.CommandLine.{IsLine}

-- ---- the call `durability`

-- each line but `late` is one of its own
abbrev pub IsOwn : Line → Type 0
IsOwn (line.List at epoch) = Unit {0}
IsOwn (line.Learn at epoch) = Unit {0}
IsOwn (line.Show epoch) = Unit {0}
IsOwn (line.Rerun dir) = Unit {0}
IsOwn (line.Check dir) = Unit {0}
IsOwn (line.Late reader prefix writer peer turns) = ⊥

-- the words are this line of its own
abbrev pub IsOwnLine : List (List ℕ) → Line → Type 0
IsOwnLine words l = IsLine words l × IsOwn l

-- ---- the lines that answer an input

-- these do, and call no file
abbrev pub IsOfInput : Line → Type 0
IsOfInput (line.List at epoch) = Unit {0}
IsOfInput (line.Learn at epoch) = Unit {0}
IsOfInput (line.Show epoch) = Unit {0}
IsOfInput (line.Rerun dir) = ⊥
IsOfInput (line.Check dir) = ⊥
IsOfInput (line.Late reader prefix writer peer turns) = ⊥

-- the words are such a line
abbrev pub IsInputLine : List (List ℕ) → Line → Type 0
IsInputLine words l = IsLine words l × IsOfInput l

abbrev no_answers : List ℕ → List ℕ → Status → Type 0
no_answers input text status = ⊥

abbrev no_ends : Status → Type 0
no_ends status = ⊥

-- what it answers
abbrev pub answers_of : Line → List ℕ → List ℕ → Status → Type 0
answers_of (line.List at epoch) = ListAnswers at epoch
answers_of (line.Learn at epoch) = LearnAnswers at epoch
answers_of (line.Show epoch) = ShowAnswers epoch
answers_of (line.Rerun dir) = no_answers
answers_of (line.Check dir) = no_answers
answers_of (line.Late reader prefix writer peer turns) = no_answers

-- the statuses with which it ends
abbrev pub ends_of : Line → Status → Type 0
ends_of (line.List at epoch) = ListEnds
ends_of (line.Learn at epoch) = LearnEnds
ends_of (line.Show epoch) = ShowEnds
ends_of (line.Rerun dir) = no_ends
ends_of (line.Check dir) = no_ends
ends_of (line.Late reader prefix writer peer turns) = no_ends

-- ---- the lines that call the two files

abbrev pub CallsFiles : Line → Type 0
CallsFiles (line.List at epoch) = ⊥
CallsFiles (line.Learn at epoch) = ⊥
CallsFiles (line.Show epoch) = ⊥
CallsFiles (line.Rerun dir) = Unit {0}
CallsFiles (line.Check dir) = Unit {0}
CallsFiles (line.Late reader prefix writer peer turns) = ⊥

-- the words are such a line
abbrev pub IsFileLine : List (List ℕ) → Line → Type 0
IsFileLine words l = IsLine words l × CallsFiles l

-- ---- the line that answers the two files

-- this one does
abbrev pub IsCheck : Line → Type 0
IsCheck (line.List at epoch) = ⊥
IsCheck (line.Learn at epoch) = ⊥
IsCheck (line.Show epoch) = ⊥
IsCheck (line.Rerun dir) = ⊥
IsCheck (line.Check dir) = Unit {0}
IsCheck (line.Late reader prefix writer peer turns) = ⊥

-- the words are such a line
abbrev pub IsCheckLine : List (List ℕ) → Line → Type 0
IsCheckLine words l = IsLine words l × IsCheck l

-- What becomes of a run of `check`.
pub record RunsCheck (tells : Type 0) (s : Status) (old new : Image) (disks disks_now writes writes_now : ℕ) : Type 0 where
  -- the status has its reason
  pub reason : HasCheckReason s disks disks_now writes writes_now
  -- where no call failed it is that of the first broken file, or memory ran out
  pub complete : tells → IsComplete old s disks disks_now writes writes_now
  -- what went out is the text for the files, or a front of it, and no file is changed
  pub out : tells → GoesOut CheckAnswers old s tells old new

-- ---- the line that stores in the two files

-- this one does
abbrev pub IsRerun : Line → Type 0
IsRerun (line.List at epoch) = ⊥
IsRerun (line.Learn at epoch) = ⊥
IsRerun (line.Show epoch) = ⊥
IsRerun (line.Rerun dir) = Unit {0}
IsRerun (line.Check dir) = ⊥
IsRerun (line.Late reader prefix writer peer turns) = ⊥

-- the words are such a line
abbrev pub IsRerunLine : List (List ℕ) → Line → Type 0
IsRerunLine words l = IsLine words l × IsRerun l

-- What becomes of a run of `rerun`, over what a source has left and a rig.
pub record RunsRerun {R : Type 0} (known left : Option (List ℕ)) (s : Status) (tells : Type 0) (old new : R) (w v : World) (reads reads_now writes writes_now disks disks_now : ℕ) : Type 0 where
  -- what was read, what was stored and what went out; and what a crash leaves at any moment
  pub runs : Reruns known s tells old new w v
  -- each status has its cause
  pub causes : HasCauses s left reads reads_now writes writes_now disks disks_now
  -- where no call failed and the input is the text of a plan and a capture, the files call for the status, or memory ran out
  pub complete : (bytes : List ℕ) → known ≡ Some bytes → IsWholeInput bytes
      → NoneRose reads reads_now writes writes_now disks disks_now → IsRerunComplete s

-- ---- the call `late`

-- the line asks for a late reader that begins so, and for so many turns
abbrev pub IsOfLate : Line → Late → ℕ → Type 0
IsOfLate (line.Late reader prefix writer peer turns) first most =
    (first ≡ fresh reader prefix writer) × (most ≡ turns)
IsOfLate (line.List at epoch) first most = ⊥
IsOfLate (line.Learn at epoch) first most = ⊥
IsOfLate (line.Show epoch) first most = ⊥
IsOfLate (line.Rerun dir) first most = ⊥
IsOfLate (line.Check dir) first most = ⊥

-- the words do
abbrev pub AsksFor : List (List ℕ) → Late → ℕ → Type 0
AsksFor words first most = (l : Line) × IsLine words l × IsOfLate l first most

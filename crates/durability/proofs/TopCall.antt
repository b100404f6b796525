-- What holds of the one line that the words are holds of each.
use Rattle.std.proofs.Common.{◌≡◌, ◌∙◌, ℕ, List, [], Option, refl, sym, subst, inl, inr}
use Rattle.std.specs.Prelude.{IfSome}
use Rattle.dur_outside.specs.World.{Image, World}
use Rattle.dur_journal.specs.declared.opening.OpenFault.{OpenFault}
use Rattle.dur_journal.specs.declared.opening.OpenFault.TheVariants as fault
use Rattle.dur_rerun.specs.declared.status.Status.{Status}
use Rattle.dur_rerun.specs.declared.status.Status.TheVariants.{Usage, OutOfMemory}
use Rattle.dur_rerun.specs.Command.{HasReason, GoesOut}
use Rattle.dur_rerun.specs.Check.Answer.{CheckAnswers}
use Rattle.dur_rerun.specs.Input.Breaks.{EndsPlan, StopsPlan}
use Rattle.dur_rerun.specs.Rerun.Answer.{EndsCourse, Reruns, open_status}
use Rattle.dur_rerun.proofs.Commands.{if_any, nothing_out}
use Rattle.durability.specs.declared.words.Line.{Line}
use Rattle.durability.specs.declared.words.Line.TheVariants as line
use Rattle.rel_writer.specs.LateReaders.{Late, fresh}
use Rattle.durability.specs.CommandLine.{IsLine}
use Rattle.durability.specs.Calls.{IsOwn, IsOfInput, IsInputLine, IsCheck, IsCheckLine, RunsCheck, IsRerun, IsRerunLine, RunsRerun, IsOfLate, AsksFor, answers_of, ends_of}
use Rattle.durability.proofs.OneLine.{one_line}

pub each_line : (P : Line → Type 0) (words : List (List ℕ)) (a : Line) → IsLine words a → P a → (l : Line) → IsLine words l → P l
each_line P words a is holds l h = subst P (one_line words a l is h) holds

-- what holds of the one line where it answers an input holds of each such line
pub each_input : (P : Line → Type 0) (words : List (List ℕ)) (a : Line) → IsLine words a → (IsOfInput a → P a) → (l : Line) → IsInputLine words l → P l
each_input P words a is holds l h = each_line (λ (x : Line). IsOfInput x → P x) words a is holds l h.0 h.1

-- what holds where the one line is `check` holds where any line is
pub of_check : (P : Type 0) (words : List (List ℕ)) (a : Line) → IsLine words a → (IsCheck a → P) → (l : Line) → IsCheckLine words l → P
of_check P words a is holds l h = each_line (λ (x : Line). IsCheck x → P) words a is holds l h.0 h.1

-- words that ask for a late reader are the one line, which does
pub of_late : (words : List (List ℕ)) (a : Line) → IsLine words a → (first : Late) (turns : ℕ) → AsksFor words first turns → IsOfLate a first turns
of_late words a is first turns h = subst (λ (x : Line). IsOfLate x first turns) (one_line words h.0 a h.1 is) h.2

-- words that ask for none are a line of `durability`
pub not_late : (words : List (List ℕ)) (a : Line) → IsLine words a → ((first : Late) (turns : ℕ) → AsksFor words first turns → ⊥) → IsOwn a
not_late words (line.List at epoch) is never = tt
not_late words (line.Learn at epoch) is never = tt
not_late words (line.Show epoch) is never = tt
not_late words (line.Rerun dir) is never = tt
not_late words (line.Check dir) is never = tt
not_late words (line.Late reader prefix writer peer turns) is never = absurd (never (fresh reader prefix writer) turns (line.Late reader prefix writer peer turns, is, (refl, refl)))

-- what holds where the one line is `rerun` holds where any line is
pub of_rerun : (P : Type 0) (words : List (List ℕ)) (a : Line) → IsLine words a → (IsRerun a → P) → (l : Line) → IsRerunLine words l → P
of_rerun P words a is holds l h = each_line (λ (x : Line). IsRerun x → P) words a is holds l h.0 h.1

pub usage_never : (l : Line) → ends_of l Usage → ⊥
usage_never (line.List at epoch) h = h
usage_never (line.Learn at epoch) h = h
usage_never (line.Show epoch) h = h
usage_never (line.Rerun dir) h = h
usage_never (line.Check dir) h = h
usage_never (line.Late reader prefix writer peer turns) h = h

-- want of memory before the command began
memory_ends : (l : Line) → IsOfInput l → ends_of l OutOfMemory
memory_ends (line.List at epoch) own = tt
memory_ends (line.Learn at epoch) own = tt
memory_ends (line.Show epoch) own = tt
memory_ends (line.Rerun dir) own = absurd own
memory_ends (line.Check dir) own = absurd own
memory_ends (line.Late reader prefix writer peer turns) own = absurd own

memory_answers : (l : Line) → IsOfInput l → (input : List ℕ) → answers_of l input [] OutOfMemory
memory_answers (line.List at epoch) own input = refl
memory_answers (line.Learn at epoch) own input = refl
memory_answers (line.Show epoch) own input = inl refl
memory_answers (line.Rerun dir) own input = absurd own
memory_answers (line.Check dir) own input = absurd own
memory_answers (line.Late reader prefix writer peer turns) own input = absurd own

pub memory_reason : (l : Line) → IsOfInput l → (left : Option (List ℕ)) (reads reads_now writes writes_now : ℕ) → HasReason (ends_of l) OutOfMemory left reads reads_now writes writes_now
memory_reason l own left reads reads_now writes writes_now = record { ends = memory_ends l own; done = λ is. absurd cc; read = λ is. absurd cc; write = λ is. absurd cc }

pub memory_out : (l : Line) → IsOfInput l → (known : Option (List ℕ)) (tells : Type 0) (now : Image) → IfSome known (λ input. GoesOut (answers_of l) input OutOfMemory tells now now)
memory_out l own known tells now = if_any known (λ input. GoesOut (answers_of l) input OutOfMemory tells now now) (λ input. nothing_out (answers_of l) input OutOfMemory tells now (memory_answers l own input))

pub memory_checks : (tells : Type 0) (now : Image) (disks writes : ℕ) → RunsCheck tells OutOfMemory now now disks disks writes writes
memory_checks tells now disks writes = record {
  reason = record { ends = tt; disk = λ is. absurd cc; write = λ is. absurd cc };
  complete = λ told looks are read written. inr refl;
  out = λ told. nothing_out CheckAnswers now OutOfMemory tells now refl;
}

-- ---- `rerun`

opening_never : (why : OpenFault) → open_status why ≡ Usage → ⊥
opening_never fault.Disk is = absurd cc
opening_never (fault.NotAJournal file at) is = absurd cc
opening_never (fault.PlanDiffers name) is = absurd cc
opening_never fault.Worn is = absurd cc
opening_never (fault.Full size) is = absurd cc
opening_never fault.OutOfMemory is = absurd cc

-- a run is never faulty words
pub rerun_never : {R : Type 0} → (known : Option (List ℕ)) (s : Status) (tells : Type 0) (old new : R) (w v : World) → Reruns known s tells old new w v → s ≡ Usage → ⊥
rerun_never known s tells old new w v h is = elim h [
  | inl none ↦ subst EndsPlan is none.ends
  | inr plan ↦ elim plan.does [
    | inl not ↦ opening_never not.why (sym not.named ∙ is)
    | inr runs ↦ subst EndsCourse is runs.ends
  ]
]

pub memory_reruns : {R : Type 0} → (known left : Option (List ℕ)) (tells : Type 0) (old : R) (w : World) (reads writes disks : ℕ) → RunsRerun known left OutOfMemory tells old old w w reads reads writes writes disks disks
memory_reruns known left tells old w reads writes disks = record {
  runs = inl (record { ends = tt; breaks = if_any known (λ input. StopsPlan input OutOfMemory) (λ input. tt); same = refl });
  causes = record { done = λ is. absurd cc; read = λ is. absurd cc; write = λ is. absurd cc; disk = λ is. absurd cc };
  complete = λ bytes known_is whole none. tt;
}

-- What the command `late` promises of a run.
use Rattle.std.specs.Prelude.{◌≡◌, ◌⊎◌, ◌≤◌, ◌<◌, ℕ, ◌+◌, ◌*◌, true, false, List, [], ◌++◌, length}
use Rattle.std.specs.declared.option.Option.{Option}
use Rattle.dur_view.specs.declared.change.Change.{Change}
use Rattle.dur_outside.specs.World.{Image}
use Rattle.dur_outside.specs.Causes.{Rose}
use Rattle.rel_writer.specs.declared.ids.Ids.{Ids}
use Rattle.rel_writer.specs.Replays.{sent as samples_of}
use Rattle.rel_writer.specs.Sets.{any_marker}
use Rattle.rel_writer.specs.Sessions.{opened}
use Rattle.rel_writer.specs.LateReaders.{Late, fresh}
use Rattle.rel_writer.specs.Turns.{Fits}
use Rattle.dur_rerun.specs.Saying.{IsSaid, wrote}
use Rattle.dur_rerun.specs.Late.Turns.{Turn, TakesAll, answers, nacks}
use Rattle.dur_rerun.specs.Late.Sessions.{AreOver}
use Rattle.dur_rerun.specs.Late.Line.{late_text}
use Rattle.dur_rerun.specs.declared.late.status.LateStatus.{LateStatus}
use Rattle.dur_rerun.specs.declared.late.status.LateStatus.TheVariants.{Done, Usage, OutOfMemory, WriteFault, LinkFault, Unfinished}

-- The late reader after its turns, of which there may be so many, where the run ends so.
abbrev pub EndsBy : ℕ → LateStatus → List Turn → Late → Type 0
EndsBy turns Done ts l = any_marker l.handled ≡ true
EndsBy turns WriteFault ts l = any_marker l.handled ≡ true
EndsBy turns Unfinished ts l = (length ts ≡ turns) × (any_marker l.handled ≡ false)
EndsBy turns LinkFault ts l = any_marker l.handled ≡ false
EndsBy turns OutOfMemory ts l = Unit {0}
EndsBy turns Usage ts l = ⊥

-- what came in a turn that a call of the link or want of memory cut short
abbrev pub AreCut : LateStatus → List (Option (List ℕ)) → Type 0
AreCut OutOfMemory cut = length cut ≤ 1
AreCut LinkFault cut = length cut ≤ 1
AreCut Done cut = cut ≡ []
AreCut WriteFault cut = cut ≡ []
AreCut Unfinished cut = cut ≡ []
AreCut Usage cut = ⊥

-- The turns that the late reader took, of which there may be so many: over a link that tells, what came and what was
-- sent is theirs.
pub record TakesTurns (first : Late) (turns : ℕ) (s : LateStatus) (tells : Type 0) (heard heard_now : List (Option (List ℕ))) (sent sent_now : List (List ℕ)) (late : Late) : Type 0 where
  -- those that were not cut short, one `receive` each
  pub ts : List Turn
  pub takes : TakesAll first ts late
  -- what came in the one that was
  pub cut : List (Option (List ℕ))
  pub cut_is : AreCut s cut
  pub within : length ts + length cut ≤ turns
  -- with 13 all turns are used up and it is not done; with 0 or 6 it became done in the last one
  pub ends : EndsBy turns s ts late
  pub heard_is : tells → heard_now ≡ heard ++ (answers ts ++ cut)
  pub sent_is : tells → sent_now ≡ sent ++ nacks ts
  -- over a new session of n changes that answers at once 3 + 2 (n + 1) turns are enough
  pub in_time : s ≡ Unfinished → (service : List ℕ) (ids : Ids) (changes : List Change) → Fits service ids changes
      → first ≡ fresh ids.reader service ids.writer → AreOver (opened ids (samples_of changes)) [] ts
      → turns < 3 + 2 * (length changes + 1)

-- What it printed of what that late reader took.
pub record PrintsTaken (late : Late) (s : LateStatus) (tells : Type 0) (old new : Image) (writes writes_now : ℕ) : Type 0 where
  -- all of the lines, where it is done
  pub done : s ≡ Done → tells → new ≡ wrote (late_text late) old
  -- or where it is not and no write failed
  pub unfinished : s ≡ Unfinished → (Rose writes writes_now → ⊥) → tells → new ≡ wrote (late_text late) old
  -- and else a front of them
  pub front : tells → IsSaid (late_text late) old new

-- Each fault has its cause.
pub record IsCaused (s : LateStatus) (links links_now writes writes_now : ℕ) : Type 0 where
  -- a call of the link failed
  pub link : s ≡ LinkFault → Rose links links_now
  -- a write failed
  pub write : s ≡ WriteFault → Rose writes writes_now

-- Where no call failed and what came within the turns brings a late reader to the marker, the run is done, or memory ran
-- out.
abbrev pub IsComplete : Late → LateStatus → List (Option (List ℕ)) → List (Option (List ℕ)) → ℕ → ℕ → ℕ → ℕ → Type 0
IsComplete first s heard heard_now links links_now writes writes_now =
    (ts : List Turn) (late : Late) → TakesAll first ts late → heard_now ≡ heard ++ answers ts → any_marker late.handled ≡ true
    → (Rose links links_now → ⊥) → (Rose writes writes_now → ⊥) → (s ≡ Done) ⊎ (s ≡ OutOfMemory)

-- The steps of a run of `late`.
use Rattle.std.specs.Prelude.{◌≡◌, ◌≤◌, ◌+◌, ℕ, Bool, true, false, List, [], ◌∷◌, ◌++◌, length, Ok, Err}
use Rattle.std.specs.declared.option.Option.{Option}
use Rattle.std.specs.declared.result.Result.{Result}
use Rattle.dur_outside.specs.declared.values.Failed.{Failed}
use Rattle.dur_outside.specs.Causes.{Rose}
use Rattle.rel_writer.specs.declared.late.LateReader.{LateReader}
use Rattle.rel_writer.specs.LateReaders.{Late}
use Rattle.rel_writer.specs.Sets.{any_marker}
use Rattle.rel_writer.specs.Standing.{Stands}
use Rattle.rel_writer.specs.Turns.{Receives}
use Rattle.dur_rerun.specs.Late.Turns.{Turn, Takes, TakesAll, SendsIf, waiting, answers, nacks}
use Rattle.dur_rerun.specs.declared.late.status.LateStatus.{LateStatus}
use Rattle.dur_rerun.specs.declared.late.status.LateStatus.TheVariants.{Done, Usage, OutOfMemory, WriteFault, LinkFault, Unfinished}

-- with this status turns end early: a call of the link failed, or memory ran out
abbrev pub CutBy : LateStatus → ℕ → ℕ → Type 0
CutBy LinkFault links links_now = Rose links links_now
CutBy OutOfMemory links links_now = Unit {0}
CutBy other links links_now = ⊥

-- that was received
pub record HearsOf (l : Late) (answer : Option (List ℕ)) (asks : Bool) (r : LateReader) : Type 0 where
  pub heard : Late
  pub receives : Receives l (waiting answer) [] asks heard
  pub stands : Stands r heard

-- an ACKNACK was sent, or none
pub record SendsOf (l : Late) (asks : Bool) (r : LateReader) (tells : Type 0) (sent sent_now : List (List ℕ)) : Type 0 where
  pub nacks : List (List ℕ)
  pub after : Late
  pub sends : SendsIf asks l nacks after
  pub stands : Stands r after
  pub sent_is : tells → sent_now ≡ sent ++ nacks

-- a turn was taken
pub record TakesOf (l : Late) (r : LateReader) (tells : Type 0) (heard heard_now : List (Option (List ℕ))) (sent sent_now : List (List ℕ)) : Type 0 where
  pub turn : Turn
  pub after : Late
  pub takes : Takes l turn after
  pub stands : Stands r after
  pub heard_is : tells → heard_now ≡ heard ++ turn.answer ∷ []
  pub sent_is : tells → sent_now ≡ sent ++ turn.nacks

-- a turn was cut short
pub record IsCutShort (tells : Type 0) (heard heard_now : List (Option (List ℕ))) (sent sent_now : List (List ℕ)) : Type 0 where
  pub cut : List (Option (List ℕ))
  pub short : length cut ≤ 1
  pub heard_is : tells → heard_now ≡ heard ++ cut
  pub sent_is : tells → sent_now ≡ sent

-- so many turns were taken
pub record Went (l : Late) (count : ℕ) (tells : Type 0) (heard heard_now : List (Option (List ℕ))) (sent sent_now : List (List ℕ)) (after : Late) : Type 0 where
  pub ts : List Turn
  pub takes : TakesAll l ts after
  pub count_is : length ts ≡ count
  pub heard_is : tells → heard_now ≡ heard ++ answers ts
  pub sent_is : tells → sent_now ≡ sent ++ nacks ts

-- and the late reader stands so
pub record GoesOn (l : Late) (count : ℕ) (r : LateReader) (tells : Type 0) (heard heard_now : List (Option (List ℕ))) (sent sent_now : List (List ℕ)) : Type 0 where
  pub after : Late
  pub went : Went l count tells heard heard_now sent sent_now after
  pub stands : Stands r after
  pub not_done : any_marker after.handled ≡ false

-- all turns were taken, or it is done
pub record GoesTo (l : Late) (turns : ℕ) (r : LateReader) (tells : Type 0) (heard heard_now : List (Option (List ℕ))) (sent sent_now : List (List ℕ)) : Type 0 where
  pub count : ℕ
  pub within : count ≤ turns
  pub after : Late
  pub went : Went l count tells heard heard_now sent sent_now after
  pub stands : Stands r after
  pub ends : any_marker after.handled ≡ false → count ≡ turns

-- turns were taken, and the last one was cut short
pub record StopsIn (l : Late) (turns : ℕ) (tells : Type 0) (heard heard_now : List (Option (List ℕ))) (sent sent_now : List (List ℕ)) : Type 0 where
  pub ts : List Turn
  pub after : Late
  pub takes : TakesAll l ts after
  pub not_done : any_marker after.handled ≡ false
  pub cut : List (Option (List ℕ))
  pub short : length cut ≤ 1
  pub within : length ts + length cut ≤ turns
  pub heard_is : tells → heard_now ≡ heard ++ (answers ts ++ cut)
  pub sent_is : tells → sent_now ≡ sent ++ nacks ts

-- what became of a run whose turns were taken, by whether the late reader is done and the lines were said
abbrev pub ended_as : Bool → Result (Unit {0}) Failed → LateStatus
ended_as false said = Unfinished
ended_as true (Ok all) = Done
ended_as true (Err failed) = WriteFault

-- with this status the run ends after its turns
abbrev pub Finishes : Late → LateStatus → ℕ → ℕ → Type 0
Finishes l Done writes writes_now = any_marker l.handled ≡ true
Finishes l WriteFault writes writes_now = (any_marker l.handled ≡ true) × Rose writes writes_now
Finishes l Unfinished writes writes_now = any_marker l.handled ≡ false
Finishes l OutOfMemory writes writes_now = Unit {0}
Finishes l LinkFault writes writes_now = ⊥
Finishes l Usage writes writes_now = ⊥

-- What the command `rerun` does, by its status.
use Rattle.std.specs.Prelude.{◌≡◌, ◌⊎◌, ℕ, ◌+◌, ◌≤◌, List, [], ◌++◌, drop, true, Option, Some, IfSome}
use Rattle.std.specs.Io.KnownBytes.{IsAtEnd}
use Rattle.dur_capture.specs.declared.record.Record.{Record}
use Rattle.dur_capture.specs.declared.fault.CapFault.{CapFault}
use Rattle.dur_capture.specs.Feeding.{Feeding, Breaks}
use Rattle.dur_capture.specs.Whole.{Feeds, CaptureWithin}
use Rattle.dur_outside.specs.Causes.{Rose}
use Rattle.dur_outside.specs.World.{Image, World, Leaves}
use Rattle.dur_qos.specs.declared.plan.Plan.{Plan as PlanOf}
use Rattle.dur_qos.specs.Text.{PlanText}
use Rattle.dur_view.specs.declared.data.View.{View}
use Rattle.dur_view.specs.History.{Start}
use Rattle.dur_view.specs.Persistent.{persistent}
use Rattle.dur_journal.specs.declared.opening.OpenFault.{OpenFault}
use Rattle.dur_journal.specs.declared.opening.OpenFault.TheVariants as fault
use Rattle.dur_journal.specs.Histories.{view_of}
use Rattle.dur_journal.specs.Kept.{Kept, Keeps}
use Rattle.dur_journal.specs.Opening.{Agrees, IsDisk}
use Rattle.dur_journal.specs.Journals.{OpenAnswers, OpenLeaves, Untouched}
use Rattle.dur_hub.specs.declared.reply.Ack.{Ack}
use Rattle.dur_hub.specs.Runs.{Run, opening}
use Rattle.dur_rerun.specs.declared.status.Status.{Status}
use Rattle.dur_rerun.specs.declared.status.Status.TheVariants.{Done, OutOfMemory, Input, ReadFault, WriteFault, DiskFault, NotAJournal, PlanDiffers, Full, Worn}
use Rattle.dur_rerun.specs.Input.Breaks.{place_at as place_of, EndsPlan, StopsPlan}
use Rattle.dur_rerun.specs.Input.Prefix.{own_prefix}
use Rattle.dur_rerun.specs.Rerun.Courses.{Course, IsNext, kept_through, place_at}
use Rattle.dur_rerun.specs.Rerun.Crashes.{IsKept}
use Rattle.dur_rerun.specs.Rerun.Kept.{IsCutOf}
use Rattle.dur_rerun.specs.Rerun.Replies.{Place}
use Rattle.dur_rerun.specs.Rerun.Stores.{kept_all, FailsToStore}

-- ---- the records

-- the octets are these records, and then first break off with this fault
pub record BreaksBehind (before : ℕ) (octets : List ℕ) (records : List Record) (fault : CapFault) : Type 0 where
  pub feed : Feeding
  pub feeds : Feeds before octets records feed
  pub breaks : Breaks feed true fault

-- These records were read of the octets behind a plan: all of them, those before the first break, or some first ones.
abbrev pub ReadsAs : ℕ → List ℕ → List Record → Status → Type 0
ReadsAs before octets records Done = CaptureWithin before octets records
ReadsAs before octets records (Input place fault) = (place_of fault ≡ Some place) × BreaksBehind before octets records fault
ReadsAs before octets records s = (f : Feeding) × Feeds before octets records f

-- with this status each record that was read was answered in full
abbrev pub IsRead : Status → Type 0
IsRead Done = Unit {0}
IsRead (Input place fault) = Unit {0}
IsRead ReadFault = Unit {0}
IsRead s = ⊥

-- with this status the records end
abbrev pub EndsCourse : Status → Type 0
EndsCourse Done = Unit {0}
EndsCourse OutOfMemory = Unit {0}
EndsCourse (Input place fault) = place_of fault ≡ Some place
EndsCourse ReadFault = Unit {0}
EndsCourse WriteFault = Unit {0}
EndsCourse DiskFault = Unit {0}
EndsCourse (Full size) = Unit {0}
EndsCourse Worn = Unit {0}
EndsCourse s = ⊥

-- ---- what went out and what is kept

-- All that the records call for was written out.
pub record IsSaidFor (own : List ℕ) (begun : Run) (records : List Record) (old new : Image) : Type 0 where
  pub acks : List Ack
  pub text : List ℕ
  pub place : Place
  pub course : Course own (place_at begun [] []) records acks text place
  pub out : new.written ≡ old.written ++ text

-- All that the records call for was written out, and the disk, which first kept this, keeps the whole persistent history to which
-- they lead, with the generation and the octets appended that the rule of compaction gives.
pub record IsStoredFor (own : List ℕ) (plan : PlanOf) (first : Kept) (begun : Run) (records : List Record) (old new : Image) : Type 0 where
  pub acks : List Ack
  pub text : List ℕ
  pub place : Place
  pub course : Course own (place_at begun [] []) records acks text place
  pub out : new.written ≡ old.written ++ text
  pub k : Kept
  pub keeps : Keeps plan new k
  pub whole : IsCutOf k.history (persistent place.run.history)
  pub rule : k ≡ kept_all (kept_through own (place_at begun [] []) records acks text place course first) place.run

-- Some of the records were answered, and the next one may have been received; and of what was to be stored then some batches were, but
-- not the next one.
pub record IsFull (own : List ℕ) (plan : PlanOf) (begun : Run) (records : List Record) (s : Status) : Type 0 where
  pub done : List Record
  pub rest : List Record
  pub are : records ≡ done ++ rest
  pub acks : List Ack
  pub text : List ℕ
  pub place : Place
  pub course : Course own (place_at begun [] []) done acks text place
  pub run : Run
  pub next : IsNext own place rest run [] []
  pub fails : FailsToStore plan run s

-- Why nothing more could be stored, with such a status.
abbrev pub StopsFull : List ℕ → PlanOf → Run → List Record → Status → Type 0
StopsFull own plan begun records (Full size) = IsFull own plan begun records (Full size)
StopsFull own plan begun records Worn = IsFull own plan begun records Worn
StopsFull own plan begun records s = Unit {0}

-- What a run over records does to the outside, with the disk in keeping, which first kept this.
pub record RunsOver (own : List ℕ) (plan : PlanOf) (first : Kept) (begun : Run) (records : List Record) (s : Status) (w v : World) : Type 0 where
  -- each crash state since its start is one of the start, or kept as the crash promise says
  pub left : Leaves w v (IsKept own plan first.generation begun records w.now)
  -- each record that was read was answered in full
  pub said : IsRead s → IsSaidFor own begun records w.now v.now
  -- and with the status 0 everything is stored
  pub stored : s ≡ Done → IsStoredFor own plan first begun records w.now v.now
  -- a view that is too long, or no generation left
  pub full : StopsFull own plan begun records s

-- ---- the whole command

-- the status of an opening that failed
abbrev pub open_status : OpenFault → Status
open_status fault.Disk = DiskFault
open_status (fault.NotAJournal file at) = NotAJournal file at
open_status (fault.PlanDiffers name) = PlanDiffers name
open_status fault.Worn = Worn
open_status (fault.Full size) = Full size
open_status fault.OutOfMemory = OutOfMemory

-- No plan was read, and nothing was done.
pub record ReadsNoPlan {R : Type 0} (known : Option (List ℕ)) (s : Status) (old new : R) : Type 0 where
  pub ends : EndsPlan s
  pub breaks : IfSome known (λ input. StopsPlan input s)
  pub same : new ≡ old

-- The journal was not opened over the plan, and the status says why. Nothing was written to the disk but by the rules of an opening,
-- and after any other fault than the disk's nothing at all.
pub record OpensNot (plan : PlanOf) (s : Status) (tells : Type 0) (w v : World) : Type 0 where
  pub why : OpenFault
  pub named : s ≡ open_status why
  pub answers : tells → OpenAnswers plan w.now why
  pub left : tells → Leaves w v (OpenLeaves plan w)
  pub untouched : tells → (IsDisk why → ⊥) → Untouched w v

-- The input begins with the text of the plan, and these records were read behind it.
abbrev pub ReadsBehind : PlanOf → List ℕ → List Record → Status → Type 0
ReadsBehind plan input records s = (n : ℕ) × PlanText input plan n × ReadsAs n (drop n input) records s

-- What a crash leaves of the whole command: with nothing written out what the disk had, or what an opening leaves of it; and else
-- what is kept as the crash promise says.
abbrev pub RerunLeaves : List ℕ → PlanOf → ℕ → Run → List Record → World → Image → Type 0
RerunLeaves own plan epoch begun records w c =
    ((c.written ≡ w.now.written) × OpenLeaves plan w c) ⊎ IsKept own plan epoch begun records w.now c

-- What the disk kept: the run begins with its view, under its next generation.
pub record IsOpenedFrom (plan : PlanOf) (c : Image) (view : View) (epoch : ℕ) : Type 0 where
  pub k : Kept
  pub keeps : Keeps plan c k
  pub agrees : Agrees plan c
  pub view_is : view ≡ view_of k.history
  pub epoch_is : epoch ≡ k.generation + 1

-- what an opening leaves: its view, under its epoch, and no octet appended
abbrev pub kept_first : View → ℕ → Kept
kept_first view epoch = record { generation = epoch; history = Start view; appended = 0 }

-- The records behind a plan were handled over a journal that was opened with that view under that epoch.
pub record ServesOn (plan : PlanOf) (view : View) (epoch : ℕ) (Reads : List Record → Type 0) (s : Status) (tells : Type 0) (u v : World) : Type 0 where
  pub records : List Record
  pub reads : Reads records
  pub runs : tells → RunsOver (own_prefix epoch plan) plan (kept_first view epoch) (opening plan view 0) records s u v

-- The journal was opened over the plan, and then the records were handled one after the other.
pub record RunsOn (plan : PlanOf) (Reads : List Record → Type 0) (s : Status) (tells : Type 0) (w v : World) : Type 0 where
  pub view : View
  pub epoch : ℕ
  pub records : List Record
  pub reads : Reads records
  pub ends : EndsCourse s
  pub opened : tells → IsOpenedFrom plan w.now view epoch
  -- each crash state since the start
  pub left : tells → Leaves w v (RerunLeaves (own_prefix epoch plan) plan epoch (opening plan view 0) records w)
  -- what went out
  pub said : tells → IsRead s → IsSaidFor (own_prefix epoch plan) (opening plan view 0) records w.now v.now
  -- and with the status 0 what is kept
  pub stored : tells → s ≡ Done
      → IsStoredFor (own_prefix epoch plan) plan (kept_first view epoch) (opening plan view 0) records w.now v.now
  -- and why nothing more could be stored
  pub full : tells → StopsFull (own_prefix epoch plan) plan (opening plan view 0) records s

-- A plan was read, and then the journal was opened over it, or not.
pub record RunsPlan (known : Option (List ℕ)) (s : Status) (tells : Type 0) (w v : World) : Type 0 where
  pub plan : PlanOf
  pub reads : IfSome known (λ input. (n : ℕ) × PlanText input plan n)
  pub does : OpensNot plan s tells w v ⊎ RunsOn plan (λ records. IfSome known (λ input. ReadsBehind plan input records s)) s tells w v

-- What `rerun` does.
abbrev pub Reruns : {R : Type 0} → Option (List ℕ) → Status → Type 0 → R → R → World → World → Type 0
Reruns known s tells old new w v = ReadsNoPlan known s old new ⊎ RunsPlan known s tells w v

-- Each status has its cause: with the status 0 the input was read to its end, and a fault is that of an object whose count of
-- faults rose.
pub record HasCauses (s : Status) (left : Option (List ℕ)) (reads reads_now writes writes_now disks disks_now : ℕ) : Type 0 where
  pub done : s ≡ Done → IsAtEnd left
  pub read : s ≡ ReadFault → Rose reads reads_now
  pub write : s ≡ WriteFault → Rose writes writes_now
  pub disk : s ≡ DiskFault → Rose disks disks_now

-- no count rose
pub record NoneRose (reads reads_now writes writes_now disks disks_now : ℕ) : Type 0 where
  pub read : Rose reads reads_now → ⊥
  pub write : Rose writes writes_now → ⊥
  pub disk : Rose disks disks_now → ⊥

-- With this status a run ends where the input is the text of a plan and a capture, and no call failed.
abbrev pub IsComplete : Status → Type 0
IsComplete Done = Unit {0}
IsComplete OutOfMemory = Unit {0}
IsComplete (NotAJournal file place) = Unit {0}
IsComplete (PlanDiffers name) = Unit {0}
IsComplete (Full size) = Unit {0}
IsComplete Worn = Unit {0}
IsComplete s = ⊥

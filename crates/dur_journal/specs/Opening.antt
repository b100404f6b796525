-- What the steps of an opening say.
use Rattle.std.specs.Prelude.{◌≡◌, ℕ, ◌≤◌, ◌^◌, All, List, length, Option, Some, Result, Ok, Err}
use Rattle.dur_outside.specs.declared.values.FileId.{FileId}
use Rattle.dur_outside.specs.declared.values.FileId.TheVariants.{Zero, One}
use Rattle.dur_outside.specs.World.{Image, content}
use Rattle.dur_view.specs.declared.data.View.{View}
use Rattle.dur_qos.specs.declared.plan.Plan.{Plan}
use Rattle.dur_view.specs.History.{History, Start, AllFollow}
use Rattle.dur_base.specs.declared.entry.Entry.{Entry}
use Rattle.dur_qos.specs.Good.{GoodPlan}
use Rattle.dur_journal.specs.Histories.{view_of, completed, IsWhole, IsBase, Has, Differing, Agreeing}
use Rattle.dur_journal.specs.declared.front.Front.{Front}
use Rattle.dur_journal.specs.declared.opening.OpenFault.{OpenFault}
use Rattle.dur_journal.specs.declared.opening.OpenFault.TheVariants as why
use Rattle.dur_journal.specs.declared.opening.Found.{Found}
use Rattle.dur_journal.specs.File.{front_in, Stored, FileText, TextBreaks}
use Rattle.dur_journal.specs.declared.opening.Loaded.{Loaded}
use Rattle.dur_journal.specs.Kept.{live_in, target, other, generation_at, Keeps, IsBroken}

abbrev pub IsDisk : OpenFault → Type 0
IsDisk e = e ≡ why.Disk

-- the disk failed, or the front of that file breaks there
abbrev pub FrontFault : FileId → Result Front ℕ → OpenFault → Type 0
FrontFault file front (why.NotAJournal broken at) = (broken ≡ file) × (front ≡ Err at)
FrontFault file front why.Disk = Unit {0}
FrontFault file front e = ⊥

-- the fronts break there
abbrev pub NewestFault : Result (Option (FileId × ℕ)) (FileId × ℕ) → OpenFault → Type 0
NewestFault live (why.NotAJournal file at) = live ≡ Err (file, at)
NewestFault live e = ⊥

-- the disk failed, or the fronts break there
abbrev pub LiveFault : Result (Option (FileId × ℕ)) (FileId × ℕ) → OpenFault → Type 0
LiveFault live (why.NotAJournal file at) = live ≡ Err (file, at)
LiveFault live why.Disk = Unit {0}
LiveFault live e = ⊥

-- the disk or memory failed
abbrev pub IsOutside : OpenFault → Type 0
IsOutside why.Disk = Unit {0}
IsOutside why.OutOfMemory = Unit {0}
IsOutside e = ⊥

-- both files by their first octets, and which is live
pub record IsFound (now : Image) (found : Found) : Type 0 where
  pub zero : front_in now.zero ≡ Ok found.zero
  pub one : front_in now.one ≡ Ok found.one
  pub live : live_in now ≡ Ok found.live

-- the disk or memory failed, or that file's text breaks there
abbrev pub TextFaultAt : FileId → List ℕ → OpenFault → Type 0
TextFaultAt file x (why.NotAJournal broken at) = (broken ≡ file) × TextBreaks x at
TextFaultAt file x why.Disk = Unit {0}
TextFaultAt file x why.OutOfMemory = Unit {0}
TextFaultAt file x e = ⊥

-- the plan differs from a view by that topic, or memory failed
abbrev pub PlanFault : Plan → View → OpenFault → Type 0
PlanFault plan view (why.PlanDiffers name) = Differing plan view name
PlanFault plan view why.OutOfMemory = Unit {0}
PlanFault plan view e = ⊥

-- the live file's view differs from the plan by that topic
pub record Differs (plan : Plan) (c : Image) (name : List ℕ) : Type 0 where
  pub file : FileId
  pub generation : ℕ
  pub view : View
  pub rs : List Stored
  pub h : History
  pub live : live_in c ≡ Ok (Some (file, generation))
  pub text : FileText (content file c) generation view rs h
  pub differs : Differing plan view name

-- the plan agrees with the live file's view, if there is one
abbrev pub Agrees : Plan → Image → Type 0
Agrees plan c = (file : FileId) (generation : ℕ) (view : View) (rs : List Stored) (h : History)
    → live_in c ≡ Ok (Some (file, generation)) → FileText (content file c) generation view rs h → Agreeing plan view

-- why a disk was not read
abbrev pub LoadFault : Plan → Image → OpenFault → Type 0
LoadFault plan c (why.NotAJournal file at) = IsBroken c file at
LoadFault plan c (why.PlanDiffers name) = Differs plan c name
LoadFault plan c why.Disk = Unit {0}
LoadFault plan c why.OutOfMemory = Unit {0}
LoadFault plan c e = ⊥

-- a disk was read: what it keeps, and the file that is written next
pub record IsLoaded (plan : Plan) (c : Image) (r : Loaded) : Type 0 where
  pub l : Option (FileId × ℕ)
  pub history : History
  pub appended : ℕ
  pub live : live_in c ≡ Ok l
  pub file : r.file ≡ target l
  pub generation : r.generation ≡ generation_at l
  pub front : front_in (content r.file c) ≡ Ok r.front
  pub spare : front_in (content (other r.file) c) ≡ Ok r.spare
  pub view : r.view ≡ view_of history
  pub agrees : Agrees plan c
  pub keeps : Keeps plan c (record { generation = r.generation; history = history; appended = appended })

-- A view that is kept of a disk: the next base.
pub record IsKeptView (plan : Plan) (v : View) : Type 0 where
  pub base : IsBase v
  pub whole : IsWhole plan v

-- What the opening asks of a view that was read, and of the entries behind it.
pub record CanComplete (plan : Plan) (v : View) (es : List Entry) : Type 0 where
  pub good : GoodPlan plan
  pub base : IsBase v
  -- a text of 2^30 octets has no more
  pub few : length v.writers ≤ 2 ^ 25
  pub listed : All (Has plan) v.topics
  pub follow : AllFollow (Start v) es

-- what a file is by what was found
abbrev pub front_by : FileId → Found → Front
front_by Zero found = found.zero
front_by One found = found.one

-- What a disk keeps, and a journal over it.
use Rattle.std.specs.Prelude.{◌≡◌, ◌⊎◌, ℕ, ◌+◌, ◌==◌, nat_lt, if◌then◌else◌, List, length, Option, Some, None, Result, Ok, Err}
use Rattle.dur_outside.specs.declared.values.FileId.{FileId}
use Rattle.dur_outside.specs.declared.values.FileId.TheVariants.{Zero, One}
use Rattle.dur_outside.specs.World.{Image, content}
use Rattle.dur_view.specs.declared.data.View.{View}
use Rattle.dur_base.specs.declared.entry.Entry.{Entry}
use Rattle.dur_qos.specs.declared.plan.Plan.{Plan}
use Rattle.dur_view.specs.History.{History}
use Rattle.dur_view.specs.History.{Start}
use Rattle.dur_record.specs.Texts.{entries_text}
use Rattle.dur_journal.specs.Histories.{more, completed, blank_of}
use Rattle.dur_journal.specs.declared.front.Front.{Front}
use Rattle.dur_journal.specs.declared.front.Front.TheVariants.{Open}
use Rattle.dur_journal.specs.File.{front_in, Stored, records_text, FileText, TextBreaks}

abbrev pub other : FileId → FileId
other Zero = One
other One = Zero

-- the generation of an open file
abbrev pub generation_of : Front → Option ℕ
generation_of (Open generation) = Some generation
generation_of front = None

-- the file with the greatest generation; two open files with one generation break at 13 of file 1
abbrev pub newest : Option ℕ → Option ℕ → Result (Option (FileId × ℕ)) (FileId × ℕ)
newest None None = Ok None
newest None (Some b) = Ok (Some (One, b))
newest (Some a) None = Ok (Some (Zero, a))
newest (Some a) (Some b) = if a == b then Err (One, 13) else if nat_lt a b then Ok (Some (One, b)) else Ok (Some (Zero, a))

-- The live file and its generation, if any file is open; or file and place of the first break: in the octets and the header of
-- file 0, in those of file 1, and then in their generations.
abbrev pub live_of : Result Front ℕ → Result Front ℕ → Result (Option (FileId × ℕ)) (FileId × ℕ)
live_of (Err at) one = Err (Zero, at)
live_of (Ok zero) (Err at) = Err (One, at)
live_of (Ok zero) (Ok one) = newest (generation_of zero) (generation_of one)

abbrev pub live_in : Image → Result (Option (FileId × ℕ)) (FileId × ℕ)
live_in c = live_of (front_in c.zero) (front_in c.one)

-- the file that is written next: the one that is not live, or file 0 where none is
abbrev pub target : Option (FileId × ℕ) → FileId
target None = Zero
target (Some live) = other live.0

-- the live generation, or 0
abbrev pub generation_at : Option (FileId × ℕ) → ℕ
generation_at None = 0
generation_at (Some live) = live.1

-- what the files of a disk keep: a history, the live generation, and the octets of all records in the live file
pub record Kept : Type 0 where
  pub generation : ℕ
  pub history : History
  pub appended : ℕ

-- these octets keep it, in a file that is live
pub record FileKeeps (plan : Plan) (x : List ℕ) (k : Kept) : Type 0 where
  pub view : View
  pub rs : List Stored
  pub read : History
  pub text : FileText x k.generation view rs read
  pub history : k.history ≡ completed plan read
  pub appended : k.appended ≡ length (records_text rs)

abbrev pub KeepsBy : Plan → Image → Result (Option (FileId × ℕ)) (FileId × ℕ) → Kept → Type 0
KeepsBy plan c (Err e) k = ⊥
KeepsBy plan c (Ok None) k = k ≡ record { generation = 0; history = Start (blank_of plan); appended = 0 }
KeepsBy plan c (Ok (Some live)) k = FileKeeps plan (content live.0 c) k

-- The disk keeps that: the history of its live file, with all that the plan declares. Without a live file it is the empty one.
abbrev pub Keeps : Plan → Image → Kept → Type 0
Keeps plan c k = KeepsBy plan c (live_in c) k

abbrev pub BrokenBy : Image → Result (Option (FileId × ℕ)) (FileId × ℕ) → FileId → ℕ → Type 0
BrokenBy c (Err e) file at = (file ≡ e.0) × (at ≡ e.1)
BrokenBy c (Ok None) file at = ⊥
BrokenBy c (Ok (Some live)) file at = (file ≡ live.0) × TextBreaks (content live.0 c) at

-- the first break of a disk that keeps nothing
abbrev pub IsBroken : Image → FileId → ℕ → Type 0
IsBroken c file at = BrokenBy c (live_in c) file at

-- after a view was written as the newest file
abbrev pub renewed : View → Kept → Kept
renewed view k = record { generation = k.generation + 1; history = Start view; appended = 0 }

-- after a record was appended
abbrev pub extended : List Entry → Kept → Kept
extended es k = record k { history = more k.history es; appended = k.appended + (5 + length (entries_text es)) }

-- a crash leaves what was kept or what is new, and what was written out
pub record IsOneOf (plan : Plan) (old : Image) (k new : Kept) (c : Image) : Type 0 where
  pub keeps : Keeps plan c k ⊎ Keeps plan c new
  pub out : c.written ≡ old.written

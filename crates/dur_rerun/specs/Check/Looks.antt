-- What the two files of a journal are, and what they keep.
use Rattle.std.specs.Prelude.{◌≡◌, ℕ, ◌==◌, nat_lt, if◌then◌else◌, Bool, true, false, not, List, [], Some, None}
use Rattle.std.specs.declared.option.Option.{Option}
use Rattle.dur_outside.specs.declared.values.FileId.{FileId}
use Rattle.dur_outside.specs.declared.values.FileId.TheVariants.{Zero, One}
use Rattle.dur_outside.specs.World.{Image}
use Rattle.dur_qos.specs.declared.plan.Plan.{Plan}
use Rattle.dur_view.specs.declared.data.View.{View}
use Rattle.dur_journal.specs.Histories.{view_of}
use Rattle.dur_journal.specs.Kept.{Kept, Keeps}
use Rattle.dur_journal.specs.Looks.{LooksLike}
use Rattle.dur_journal.specs.declared.seen.Look.{Look}
use Rattle.dur_journal.specs.declared.seen.Look.TheVariants as look
use Rattle.dur_journal.specs.declared.seen.LookFault.{LookFault}
use Rattle.dur_journal.specs.declared.seen.LookFault.TheVariants as fault
use Rattle.dur_rerun.specs.declared.check.looks.Looks.{Looks}
use Rattle.dur_rerun.specs.declared.status.Status.{Status}
use Rattle.dur_rerun.specs.declared.status.Status.TheVariants.{OutOfMemory, DiskFault}
use Rattle.dur_rerun.specs.Check.Line.{kept_text}

-- the status of a file that was not looked at
abbrev pub look_status : LookFault → Status
look_status fault.Disk = DiskFault
look_status fault.OutOfMemory = OutOfMemory

-- the files are these, each by itself
pub record AreLooks (files : Image) (l : Looks) : Type 0 where
  pub zero : LooksLike files.zero l.zero
  pub one : LooksLike files.one l.one

-- the place at which a file is broken
abbrev pub break_of : Look → Option ℕ
break_of (look.Broken at) = Some at
break_of other = None

abbrev pub first_of : Option ℕ → Option ℕ → Option (FileId × ℕ)
first_of (Some at) one = Some (Zero, at)
first_of None (Some at) = Some (One, at)
first_of None None = None

-- the first broken file and its place
abbrev pub first_broken : Looks → Option (FileId × ℕ)
first_broken l = first_of (break_of l.zero) (break_of l.one)

-- the generation of an open file
abbrev pub open_generation : Look → Option ℕ
open_generation (look.Open generation records view) = Some generation
open_generation other = None

-- two open files have equal generations
abbrev pub are_equal : Option ℕ → Option ℕ → Bool
are_equal None one = false
are_equal (Some a) None = false
are_equal (Some a) (Some b) = a == b

abbrev pub unless_broken : Option (FileId × ℕ) → Bool → Bool
unless_broken None printed = printed
unless_broken (Some broken) printed = false

-- changes are printed where no file is broken, and no two open files have equal generations
abbrev pub prints_changes : Looks → Bool
prints_changes l = unless_broken (first_broken l) (not (are_equal (open_generation l.zero) (open_generation l.one)))

-- a plan that declares nothing
abbrev pub no_plan : Plan
no_plan = record { prefix = []; topics = []; writers = []; readers = [] }

-- the lines of the changes that the files keep
pub record KeepsChanges (files : Image) (text : List ℕ) : Type 0 where
  pub kept : Kept
  pub keeps : Keeps no_plan files kept
  pub text_is : text ≡ kept_text (view_of kept.history)

-- those lines, or nothing
abbrev pub PrintsChanges : Image → Bool → List ℕ → Type 0
PrintsChanges files true text = KeepsChanges files text
PrintsChanges files false text = text ≡ []

-- the open file with the greatest generation
abbrev pub live_file : Option ℕ → Option ℕ → Option FileId
live_file None None = None
live_file None (Some b) = Some One
live_file (Some a) None = Some Zero
live_file (Some a) (Some b) = if a == b then None else if nat_lt a b then Some One else Some Zero

-- the view at the end of an open file
abbrev pub open_view : Look → Option View
open_view (look.Open generation records view) = Some view
open_view other = None

abbrev pub view_at : Look → Look → Option FileId → Option View
view_at zero one None = None
view_at zero one (Some Zero) = open_view zero
view_at zero one (Some One) = open_view one

abbrev pub live_unless : Option (FileId × ℕ) → Option View → Option View
live_unless None live = live
live_unless (Some broken) live = None

-- the view whose changes are printed
abbrev pub live_view : Looks → Option View
live_view l = live_unless (first_broken l) (view_at l.zero l.one (live_file (open_generation l.zero) (open_generation l.one)))

-- The worlds of the objects in memory: each change is kept with what it took away, so that what stood at each
-- earlier moment follows from what stands now.
use Rattle.std.specs.Prelude.{◌≡◌, ◌⊎◌, ℕ, ◌+◌, ◌-◌, ◌≤◌, Bool, true, false, IsTrue, List, [], ◌∷◌, ◌++◌, length, take, drop, Option, Some, None}
use Rattle.dur_outside.specs.Calls.{GivenCalls, IsListed}
use Rattle.dur_outside.specs.declared.change.Edit.{Edit}
use Rattle.dur_outside.specs.declared.change.Edit.TheVariants.{Wrote, Shortened, Synced}
use Rattle.dur_outside.specs.declared.change.Change.{Change}
use Rattle.dur_outside.specs.declared.change.Change.TheVariants.{Made, Sent}
use Rattle.dur_outside.specs.declared.values.FileId.{FileId}
use Rattle.dur_outside.specs.declared.values.FileId.TheVariants.{Zero, One}
use Rattle.dur_outside.specs.World.{Image, World, content, put, Torn, Cut}

-- what a file held before that edit
abbrev pub octets_before : Edit → List ℕ → List ℕ
octets_before (Wrote at count old) x = take at x ++ (old ++ drop (at + count) x)
octets_before (Shortened end tail) x = x ++ tail
octets_before Synced x = x

-- the image before that change
abbrev pub image_before : Change → Image → Image
image_before (Made file edit) x = put file (octets_before edit (content file x)) x
image_before (Sent count) x = record x { written = take (length x.written - count) x.written }

-- what a crash may leave of a file that reads as x after that edit, where before it what it may leave has M
abbrev pub ByEdit : Edit → List ℕ → (List ℕ → Type 0) → List ℕ → Type 0
ByEdit (Wrote at count old) x M c = (c ≡ x) ⊎ ((d : List ℕ) × M d × Torn at count d c)
ByEdit (Shortened end tail) x M c = (c ≡ x) ⊎ ((d : List ℕ) × M d × Cut end d c)
ByEdit Synced x M c = c ≡ x

-- what a crash may leave of that file, which reads as x after those changes, the latest first
abbrev pub MayHold : List Change → FileId → List ℕ → List ℕ → Type 0
MayHold [] file x c = c ≡ x
MayHold (Made Zero edit ∷ past) Zero x c = ByEdit edit x (MayHold past Zero (octets_before edit x)) c
MayHold (Made Zero edit ∷ past) One x c = MayHold past One x c
MayHold (Made One edit ∷ past) Zero x c = MayHold past Zero x c
MayHold (Made One edit ∷ past) One x c = ByEdit edit x (MayHold past One (octets_before edit x)) c
MayHold (Sent count ∷ past) file x c = MayHold past file x c

-- what a crash may leave of the image x after those changes: of each file one of its own, and all that was written out
pub record IsImage (x : Image) (past : List Change) (c : Image) : Type 0 where
  pub zero : MayHold past Zero x.zero c.zero
  pub one : MayHold past One x.one c.one
  pub written : c.written ≡ x.written

-- what a crash at some moment from t on might have left, where x stands after those changes
abbrev pub Since : List Change → Image → ℕ → Image → Type 0
Since [] x t c = IsImage x [] c
Since (change ∷ past) x t c = IsImage x (change ∷ past) c
    ⊎ ((t ≤ length past) × Since past (image_before change x) t c)

-- the world in which x stands after those changes: each change is a moment
abbrev pub world_of : Image → List Change → World
world_of x past = record { now = x; may = IsImage x past; moment = length past; since = Since past x }

-- what contracts see of a disk in memory: both files as they read, what was changed (the latest first), after how many
-- further calls that change a file all of them fail, and its calls
pub record GivenDisk : Type 0 where
  pub zero : List ℕ
  pub one : List ℕ
  pub past : List Change
  pub left : Option ℕ
  pub calls : GivenCalls

-- what that file reads as
abbrev pub octets_of : FileId → GivenDisk → List ℕ
octets_of Zero d = d.zero
octets_of One d = d.one

-- its files, beside what a sink wrote out
abbrev pub image : List ℕ → GivenDisk → Image
image written d = record { zero = d.zero; one = d.one; written = written }

-- the world of a disk and of what was written out beside it
abbrev pub disk_world : List ℕ → GivenDisk → World
disk_world written d = world_of (image written d) d.past

-- the next call, which changes a file or does not, is set to fail
abbrev pub IsSet : Bool → GivenDisk → Type 0
IsSet changing d = IsListed d.calls ⊎ (IsTrue changing × (d.left ≡ Some 0))

-- a call that changes a file counts down
abbrev pub left_after : Bool → Option ℕ → Option ℕ
left_after true (Some n) = Some (n - 1)
left_after true None = None
left_after false left = left

-- neither a file nor what a crash may leave has changed
pub record KeepsFiles (old new : GivenDisk) : Type 0 where
  pub zero : new.zero ≡ old.zero
  pub one : new.one ≡ old.one
  pub past : new.past ≡ old.past

-- no call was counted
pub record KeepsCalls (old new : GivenDisk) : Type 0 where
  pub left : new.left ≡ old.left
  pub calls : new.calls ≡ old.calls

-- that file reads so now, by that edit
pub record Edits (file : FileId) (edit : Edit) (octets : List ℕ) (old new : GivenDisk) : Type 0 where
  pub files : (written : List ℕ) → image written new ≡ put file octets (image written old)
  pub past : new.past ≡ Made file edit ∷ old.past

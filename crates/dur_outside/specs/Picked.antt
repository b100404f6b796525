-- Which octets a number picks of those that a crash may leave in a file. Each edit takes its part of the number: the
-- remainder by one more than its count of octets, once or twice.
use Rattle.std.specs.Prelude.{ℕ, ◌+◌, ◌/◌, ◌%◌, if◌then◌else◌, nat_le, List, [], ◌∷◌, length, take, drop}
use Rattle.dur_outside.specs.declared.change.Edit.{Edit}
use Rattle.dur_outside.specs.declared.change.Edit.TheVariants.{Wrote, Shortened, Synced}
use Rattle.dur_outside.specs.declared.change.Change.{Change}
use Rattle.dur_outside.specs.declared.change.Change.TheVariants.{Made, Sent}
use Rattle.dur_outside.specs.declared.values.FileId.{FileId}
use Rattle.dur_outside.specs.declared.values.FileId.TheVariants.{Zero, One}
use Rattle.dur_outside.specs.World.{over}
use Rattle.dur_outside.specs.Memory.{octets_before}

-- the octets with these at that place, if they reach so far
abbrev pub over_if_reached : ℕ → List ℕ → List ℕ → List ℕ
over_if_reached at piece d = if nat_le at (length d) then over at piece d else d

-- the octets with some part of what was written at that place
abbrev pub tear : ℕ → ℕ → List ℕ → List ℕ → List ℕ
tear at pick made d = over_if_reached (at + pick % (length made + 1))
    (take (pick / (length made + 1) % (length made + 1)) (drop (pick % (length made + 1)) made)) d

-- the octets that x has since that edit
abbrev pub made_by : Edit → List ℕ → List ℕ
made_by (Wrote at count old) x = take count (drop at x)
made_by (Shortened end tail) x = tail
made_by Synced x = []

-- what is left of the number for the edits before
abbrev pub next_pick : Edit → List ℕ → ℕ → ℕ
next_pick edit x pick = pick / (length (made_by edit x) + 1) / (length (made_by edit x) + 1)

-- d with what the crash leaves of that edit, where the file reads as x after it
abbrev pub edit_pick : Edit → ℕ → List ℕ → List ℕ → List ℕ
edit_pick (Wrote at count old) pick x d = tear at pick (take count (drop at x)) d
edit_pick (Shortened end tail) pick x d = take (end + pick % (length tail + 1)) d
edit_pick Synced pick x d = x

-- what the number picks of what a crash may leave of that file, which reads as x after those changes, the latest first
abbrev pub pick_of : List Change → FileId → ℕ → List ℕ → List ℕ
pick_of [] file pick x = x
pick_of (Made Zero edit ∷ past) Zero pick x =
    edit_pick edit pick x (pick_of past Zero (next_pick edit x pick) (octets_before edit x))
pick_of (Made Zero edit ∷ past) One pick x = pick_of past One pick x
pick_of (Made One edit ∷ past) Zero pick x = pick_of past Zero pick x
pick_of (Made One edit ∷ past) One pick x =
    edit_pick edit pick x (pick_of past One (next_pick edit x pick) (octets_before edit x))
pick_of (Sent count ∷ past) file pick x = pick_of past file pick x

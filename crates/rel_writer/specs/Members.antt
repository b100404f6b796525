-- What one pass over the changes carries from each to the next.
use Rattle.std.specs.Prelude.{ℕ, ◌==◌, ◌&&◌, if◌then◌else◌, Option, Some, None, List, [], ◌∷◌}
use Rattle.std.specs.Str.{bytes_eq}
use Rattle.dur_base.specs.declared.sample.SetMark.{SetMark}
use Rattle.dur_base.specs.declared.sample.SetMark.TheVariants.{NoSet, End, Of}
use Rattle.dur_view.specs.declared.change.Change.{Change}
use Rattle.rel_writer.specs.declared.members.Member.{Member}
use Rattle.rel_writer.specs.Replays.{first_member}

-- what a change of this mark and writer is a member of, where its set is sent under that number
abbrev pub member_by : SetMark → List ℕ → ℕ → Option Member
member_by (Of f) writer first = Some (record { writer = writer; set = f; first = first })
member_by NoSet writer first = None
member_by End writer first = None

-- what the last of these changes is a member of, the latest of them first
abbrev pub last_member : List Change → Option Member
last_member [] = None
last_member (b ∷ before) = member_by b.sample.set b.writer (first_member before b)

-- the number of the set of a member of this writer and set, with this number, behind the last one
abbrev pub first_after : Option Member → List ℕ → ℕ → ℕ → ℕ
first_after None writer set number = number
first_after (Some m) writer set number =
    if bytes_eq m.writer writer && (m.set == set) then m.first else number

abbrev pub mark_of : Option Member → SetMark
mark_of None = NoSet
mark_of (Some m) = Of m.first

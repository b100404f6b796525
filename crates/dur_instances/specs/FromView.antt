-- What is kept of a topic in a view.
use Rattle.std.specs.Prelude.{ℕ, ◌-◌, ◌^◌, ◌==◌, ◌||◌, nat_le, if◌then◌else◌, Option, Some, None, List, [], ◌∷◌, filter, slice_get, option_and_then}
use Rattle.dur_view.specs.Identities.{Key}
use Rattle.dur_view.specs.declared.data.Instance.{Instance}
use Rattle.dur_view.specs.declared.data.Kept.{Kept}
use Rattle.dur_instances.specs.declared.cells.Cell.{Cell}
use Rattle.dur_instances.specs.declared.registered.Registered.{Registered}
use Rattle.dur_instances.specs.declared.changes.Change.{Change}
use Rattle.dur_instances.specs.Layout.{with_one}

abbrev pub cell_of_line : Instance → Cell
cell_of_line line = record { key = line.key; disposed = line.disposed; quiet = line.quiet; count = 0 }

-- the lines of a topic
abbrev pub lines_in : ℕ → List Instance → List Instance
lines_in t lines = filter (λ line. line.topic == t) lines

-- with registrations of these writers with an instance
abbrev pub with_all : Key → List ℕ → List Registered → List Registered
with_all k [] regs = regs
with_all k (x ∷ xs) regs = with_all k xs (with_one record { key = k; by = x } regs)

abbrev pub with_lines : List Instance → List Registered → List Registered
with_lines [] regs = regs
with_lines (line ∷ lines) regs = with_lines lines (with_all line.key line.registered regs)

-- the counter after which so many changes raise it to 0
abbrev pub start_at : ℕ → ℕ
start_at n = if n == 0 || nat_le (2 ^ 32) n then 0 else 2 ^ 32 - n

-- how many later changes the instance had, which counts where the topic is deep
abbrev pub gap : Option ℕ → ℕ → ℕ → ℕ
gap None changes ordinal = 0
gap (Some depth) changes ordinal = changes - ordinal

abbrev pub change_by : Option ℕ → ℕ → Kept → Change
change_by depth changes c = record { at = start_at (gap depth changes c.ordinal); writer = c.writer; number = c.number; arrived = c.arrived; sample = c.sample }

-- how many changes the instance of a kept change had, if it is one of the topic
abbrev pub counted_in : ℕ → List Instance → Kept → Option ℕ
counted_in t lines c = option_and_then (λ line. if line.topic == t then Some line.changes else None) (slice_get lines c.instance)

abbrev pub with_kept : Option ℕ → Option ℕ → Kept → List Change → List Change
with_kept depth None c rest = rest
with_kept depth (Some changes) c rest = change_by depth changes c ∷ rest

abbrev pub changes_in : Option ℕ → ℕ → List Instance → List Kept → List Change
changes_in depth t lines [] = []
changes_in depth t lines (c ∷ cs) = with_kept depth (counted_in t lines c) c (changes_in depth t lines cs)

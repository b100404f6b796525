-- Instances in any order, and the list of them by key that they are seen as.
use Rattle.std.specs.Prelude.{ℕ, Bool, ◌&&◌, if◌then◌else◌, is_some, Some, None, Option, List, [], ◌∷◌, map, refl}
use Rattle.std.specs.Str.{bytes_eq}
use Rattle.std.specs.List.{IsDistinct}
use Rattle.std.specs.Coded.{Coded, code_by, coded×, coded_ℕ, coded_list}
use Rattle.dur_view.specs.Identities.{Key}
use Rattle.dur_instances.specs.declared.cells.Cell.{Cell}
use Rattle.dur_instances.specs.declared.table.State.{State}
use Rattle.dur_instances.specs.contracts.cells.Cell as cell_row
use Rattle.dur_instances.specs.Layout.{with_cell}

-- The instances by key, and how many more may come without memory.
pub record CellsNow : Type 0 where
  pub list : List Cell
  pub room : ℕ

abbrev pub cells_code : Coded CellsNow
cells_code = code_by (List Cell × ℕ) (coded× (coded_list cell_row.the_row.coded) coded_ℕ) (λ c. (c.list, c.room)) (λ p. record { list = p.0; room = p.1 }) (λ _. refl)

-- the instance of an entry
abbrev pub cell_by : Key × State → Cell
cell_by e = record { key = e.0; disposed = e.1.disposed; quiet = e.1.quiet; count = e.1.count }

-- the instances of entries, by key
abbrev pub cells_by : List (Key × State) → List Cell
cells_by [] = []
cells_by (e ∷ es) = with_cell (cell_by e) (cells_by es)

-- each entry has a key of its own
abbrev pub Distinct : List (Key × State) → Type 0
Distinct es = IsDistinct bytes_eq (map (λ e. e.0) es)

-- when an instance is quiet from, after registrations ended, where nobody may be registered with it
abbrev pub quiet_by : Bool → ℕ → State → Option ℕ
quiet_by nobody m s = if s.disposed && nobody then (if is_some s.quiet then s.quiet else Some m) else None

abbrev pub settled_by : Bool → ℕ → State → State
settled_by nobody m s = record s { quiet = quiet_by nobody m s }

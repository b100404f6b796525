-- What is counted of each instance, beside its cell, in one pass over the kept changes.
use Rattle.std.specs.Prelude.{ℕ, ◌+◌, ◌++◌, if◌then◌else◌, Option, Some, None, List, [], ◌∷◌, map, count_by}
use Rattle.dur_view.specs.Fates.{is_long}
use Rattle.dur_instances.specs.declared.cells.Cell.{Cell}
use Rattle.dur_instances.specs.declared.changes.Change.{Change}
use Rattle.dur_instances.specs.declared.tallies.Tally.{Tally}
use Rattle.dur_instances.specs.declared.registered.Registered.{Registered}
use Rattle.dur_view.specs.declared.data.Instance.{Instance}
use Rattle.dur_view.specs.declared.data.Kept.{Kept}
use Rattle.dur_instances.specs.Layout.{places, is_gone_in, is_change_of, first_later, shown_count, shown_ordinal}

-- a change that may be kept, if it is left at a moment
abbrev pub left_at : List Cell → ℕ → ℕ → Option Change → Option Change
left_at cells longest now None = None
left_at cells longest now (Some c) = if is_gone_in cells longest now c then None else Some c

abbrev pub with_end : List Change → Option Change → List Change
with_end cs None = cs
with_end cs (Some c) = cs ++ c ∷ []

-- of the changes of an instance that are left: how many later ones the first one has, and how many there are
abbrev pub tally_of : List Cell → List Change → Cell → Tally
tally_of cells left c = record { first = first_later cells c.key left; count = count_by (is_change_of c.key) left }

abbrev pub tallies_of : List Cell → List Change → List Tally
tallies_of cells left = map (tally_of cells left) cells

-- how many instances that exist come before each, where so many come before the first
abbrev pub spots_of : ℕ → ℕ → ℕ → List Cell → List ℕ
spots_of longest now n [] = []
spots_of longest now n (c ∷ cells) = n ∷ spots_of longest now (if is_long c.quiet longest now then n else n + 1) cells

-- what a view says of an instance, of which this is left
abbrev pub line_told : ℕ → Option ℕ → List Registered → Cell → Tally → Instance
line_told topic depth regs c t =
    record {
      topic = topic;
      key = c.key;
      disposed = c.disposed;
      quiet = c.quiet;
      registered = places regs c.key;
      changes = shown_count depth t.first t.count;
    }

-- what a view says of a change of the instance at this place of it, among those of the instance that are left
abbrev pub kept_told : Option ℕ → ℕ → Option ℕ → ℕ → ℕ → Change → Kept
kept_told depth spot first later before c =
    record { instance = spot; ordinal = shown_ordinal depth first later before; writer = c.writer; number = c.number; arrived = c.arrived; sample = c.sample }

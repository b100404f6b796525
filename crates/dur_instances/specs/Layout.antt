-- The rows and changes that the vectors show.
use Rattle.std.specs.Prelude.{◌≡◌, ℕ, ◌+◌, ◌-◌, ◌<◌, Bool, false, ◌&&◌, ◌||◌, ◌==◌, not, if◌then◌else◌, nat_le, ◌^◌, option_map, option_and_then, unwrap_or, Option, Some, None, List, [], ◌∷◌, ◌++◌, map, filter, find, is_some, count_by}
use Rattle.std.specs.Ordering.{nat_cmp, match_ordering}
use Rattle.std.specs.declared.cmp.Ordering.{Ordering}
use Rattle.std.specs.declared.cmp.Ordering.TheVariants.{Less, Greater}
use Rattle.dur_base.specs.declared.sample.Act.{Act}
use Rattle.dur_base.specs.declared.sample.Act.TheVariants.{Unregister, DisposeUnregister, Marker}
use Rattle.dur_qos.specs.declared.plan.Topic.{Topic}
use Rattle.dur_view.specs.Identities.{Key}
use Rattle.dur_view.specs.Words.{is_key}
use Rattle.dur_view.specs.Fates.{key_cmp, reaches, is_nobody, is_long, is_over_by, Told}
use Rattle.dur_view.specs.declared.data.Instance.{Instance}
use Rattle.dur_view.specs.declared.data.Kept.{Kept}
use Rattle.dur_instances.specs.declared.cells.Cell.{Cell}
use Rattle.dur_instances.specs.declared.registered.Registered.{Registered}
use Rattle.dur_instances.specs.declared.changes.Change.{Change}
use Rattle.dur_instances.specs.Trimmed.{Row, Late}
use Rattle.dur_instances.specs.Kept.{EachLate, IsKept}

-- the places of the writers that are registered with the instance of a key
abbrev pub places : List Registered → Key → List ℕ
places regs k = map (λ r. r.by) (filter (λ r. is_key r.key k) regs)

abbrev pub row_of : List Registered → Cell → Row
row_of regs c = record { key = c.key; disposed = c.disposed; quiet = c.quiet; registered = places regs c.key }

abbrev pub rows_of : List Cell → List Registered → List Row
rows_of cells regs = map (row_of regs) cells

abbrev pub keys_of : List Cell → List Key
keys_of cells = map (λ c. c.key) cells

abbrev pub cell_in : List Cell → Key → Option Cell
cell_in cells k = find (λ c. is_key c.key k) cells

-- how often a counter that goes back to 0 after 2^32 - 1 was raised from a to b
abbrev pub raised : ℕ → ℕ → ℕ
raised a b = if nat_le a b then b - a else b + 2 ^ 32 - a

abbrev pub next_count : ℕ → ℕ
next_count n = if n == 2 ^ 32 - 1 then 0 else n + 1

-- the counter of the changes of an instance, which goes on only where the topic is deep
abbrev pub count_after : Option ℕ → ℕ → ℕ
count_after None n = n
count_after (Some depth) n = next_count n

abbrev pub count_in : List Cell → Key → ℕ
count_in cells k = unwrap_or (option_map (λ c. c.count) (cell_in cells k)) 0

abbrev pub late_of : List Cell → Change → Late
late_of cells c = record { later = raised c.at (count_in cells c.sample.key); writer = c.writer; number = c.number; arrived = c.arrived; sample = c.sample }

abbrev pub lates_of : List Cell → List Change → List Late
lates_of cells changes = map (late_of cells) changes

-- cells by key, with this one in place of its key's
abbrev pub with_cell : Cell → List Cell → List Cell
with_cell c [] = c ∷ []
with_cell c (x ∷ xs) = match_ordering (key_cmp c.key x.key) (c ∷ x ∷ xs) (c ∷ xs) (x ∷ with_cell c xs)

abbrev pub is_one : Registered → Registered → Bool
is_one a b = (a.by == b.by) && is_key a.key b.key

-- registrations by the keys of their instances, and those of an instance by the places of their writers
abbrev pub reg_cmp : Registered → Registered → Ordering
reg_cmp a b = match_ordering (key_cmp a.key b.key) Less (nat_cmp a.by b.by) Greater

-- registrations in order, with one more
abbrev pub with_one : Registered → List Registered → List Registered
with_one r [] = r ∷ []
with_one r (x ∷ xs) = match_ordering (reg_cmp r x) (r ∷ x ∷ xs) (x ∷ xs) (x ∷ with_one r xs)

-- the registrations after a sample with this act of the writer and of the instance
abbrev pub regs_after : Act → Registered → List Registered → List Registered
regs_after Unregister one regs = filter (λ r. not (is_one r one)) regs
regs_after DisposeUnregister one regs = filter (λ r. not (is_one r one)) regs
regs_after Marker one regs = regs
regs_after act one regs = with_one one regs

-- each of them comes after it
abbrev pub EachAfter : Registered → List Registered → Type 0
EachAfter r [] = Unit {0}
EachAfter r (x ∷ xs) = (reg_cmp r x ≡ Less) × EachAfter r xs

-- registrations stand in order
abbrev pub InOrder : List Registered → Type 0
InOrder [] = Unit {0}
InOrder (r ∷ rs) = EachAfter r rs × InOrder rs

abbrev pub EachChange : (Change → Type 0) → List Change → Type 0
EachChange P [] = Unit {0}
EachChange P (c ∷ cs) = P c × EachChange P cs

-- what holds of the vectors
pub record IsLaid (settings : Topic) (cells : List Cell) (regs : List Registered) (changes : List Change) : Type 0 where
  pub kept : IsKept (rows_of cells regs) (lates_of cells changes)
  pub in_order : InOrder regs
  pub known : (k : Key) → cell_in cells k ≡ None → places regs k ≡ []
  pub deep : (d : ℕ) → settings.depth ≡ Some d → d < 2 ^ 32
  pub counts : (k : Key) → count_in cells k < 2 ^ 32
  pub counters : EachChange (λ c. c.at < 2 ^ 32) changes
  pub shallow : EachLate (λ c. reaches settings.depth c.later ≡ false) (lates_of cells changes)

-- whether the instance of a key is purged at a moment, in a topic with this cleanup delay in ticks
abbrev pub is_purged_in : List Cell → ℕ → ℕ → Key → Bool
is_purged_in cells longest now k = unwrap_or (option_map (λ c. is_long c.quiet longest now) (cell_in cells k)) false

-- whether a kept change is expired or purged at a moment
abbrev pub is_gone_in : List Cell → ℕ → ℕ → Change → Bool
is_gone_in cells longest now c = is_over_by c.sample.lifespan c.sample.stamp now || is_purged_in cells longest now c.sample.key

-- whether as many later changes came as the topic is deep
abbrev pub is_deep_in : List Cell → Option ℕ → Change → Bool
is_deep_in cells depth c = reaches depth (late_of cells c).later

-- a cell after registrations ended: it may have become quiet at the moment
abbrev pub settled : List Registered → ℕ → Cell → Cell
settled regs m c = record c { quiet = if c.disposed && is_nobody (places regs c.key) then (if is_some c.quiet then c.quiet else Some m) else None }

-- a cell after registrations with the instance of a key ended
abbrev pub settled_at : Key → List Registered → ℕ → Cell → Cell
settled_at k regs m c = if is_key c.key k then settled regs m c else c

-- since when the instance of a key is quiet
abbrev pub quiet_in : List Cell → Key → Option ℕ
quiet_in cells k = option_and_then (λ c. c.quiet) (cell_in cells k)

abbrev pub told_of : Change → Told
told_of c = record { writer = c.writer; number = c.number; sample = c.sample }

-- those that are left at a moment
abbrev pub left_of : List Cell → ℕ → ℕ → List Change → List Change
left_of cells longest now changes = filter (λ c. not (is_gone_in cells longest now c)) changes

abbrev pub is_change_of : Key → Change → Bool
is_change_of k c = is_key c.sample.key k

-- how many changes a view says that an instance had, of which these are left: all from the first of them on, or only these
abbrev pub shown_count : Option ℕ → Option ℕ → ℕ → ℕ
shown_count None first left = left
shown_count (Some depth) None left = 0
shown_count (Some depth) (Some later) left = later + 1

abbrev pub first_later : List Cell → Key → List Change → Option ℕ
first_later cells k left = option_map (λ c. (late_of cells c).later) (find (is_change_of k) left)

-- what a view says of an instance of a topic, of whose changes these are left
abbrev pub line_shown : ℕ → Option ℕ → List Cell → List Registered → List Change → Cell → Instance
line_shown topic depth cells regs left c =
    record {
      topic = topic;
      key = c.key;
      disposed = c.disposed;
      quiet = c.quiet;
      registered = places regs c.key;
      changes = shown_count depth (first_later cells c.key left) (count_by (is_change_of c.key) left);
    }

-- the place of a key among cells
abbrev pub place_in_cells : List Cell → Key → ℕ
place_in_cells [] k = 0
place_in_cells (c ∷ cells) k = if is_key c.key k then 0 else place_in_cells cells k + 1

-- the ordinal that a view gives to a kept change: counted from the first of its instance's on, or its place among those left
abbrev pub shown_ordinal : Option ℕ → Option ℕ → ℕ → ℕ → ℕ
shown_ordinal None first later before = before + 1
shown_ordinal (Some depth) None later before = 0
shown_ordinal (Some depth) (Some first) later before = first + 1 - later

-- what a view says of a kept change, among those that are left, beside the instances that exist; `before` are those before it
abbrev pub kept_shown : Option ℕ → List Cell → List Cell → List Change → List Change → Change → Kept
kept_shown depth cells there left before c =
    record {
      instance = place_in_cells there c.sample.key;
      ordinal = shown_ordinal depth (first_later cells c.sample.key left) (late_of cells c).later (count_by (is_change_of c.sample.key) before);
      writer = c.writer;
      number = c.number;
      arrived = c.arrived;
      sample = c.sample;
    }

abbrev pub all_shown : Option ℕ → List Cell → List Cell → List Change → List Change → List Change → List Kept
all_shown depth cells there left before [] = []
all_shown depth cells there left before (c ∷ cs) = kept_shown depth cells there left before c ∷ all_shown depth cells there left (before ++ c ∷ []) cs

-- the instances that exist at a moment
abbrev pub cells_there : List Cell → ℕ → ℕ → List Cell
cells_there cells longest now = filter (λ c. not (is_long c.quiet longest now)) cells

-- The steps that a window takes, and what each of them is told.
use Rattle.std.specs.Prelude.{ℕ, ◌+◌, ◌-◌, ◌%◌, ◌==◌, ◌&&◌, ◌||◌, not, Bool, false, nat_lt, nat_le, if◌then◌else◌, max, slice_set}
use Rattle.dur_base.specs.NumberSets.{NumberSet, has_bit}
use Rattle.rel_reader.specs.declared.known.Known.{Known}
use Rattle.rel_reader.specs.declared.known.Known.TheVariants.{Unknown, Irrelevant}
use Rattle.rel_reader.specs.Knowledge.{is_unknown}
use Rattle.rel_reader.specs.KnownNumbers.{is_near}
use Rattle.rel_reader.specs.Windows.{Window, known_in}

-- what is told of the number j alone
abbrev pub said : ℕ → ℕ → Known → ℕ → Known
said n j x k = if (k == j) && is_near n k then x else Unknown

-- what a first available number tells
abbrev pub said_below : ℕ → ℕ → Known
said_below first k = if nat_lt k first then Irrelevant else Unknown

-- what a GAP tells of the numbers below its base
abbrev pub said_to : ℕ → ℕ → ℕ → ℕ → Known
said_to n start base k = if (nat_le start n && nat_lt k base) || ((nat_le start k && nat_lt k base) && is_near n k) then Irrelevant else Unknown

-- that the numbers from one up to below another are irrelevant, those in the window
abbrev pub said_between : ℕ → ℕ → ℕ → ℕ → Known
said_between n from to k = if (nat_le from k && nat_lt k to) && is_near n k then Irrelevant else Unknown

-- what the first i bits of a GAP's set tell
abbrev pub said_named : ℕ → NumberSet → ℕ → ℕ → Known
said_named n set i k = if (nat_le set.base k && (nat_lt (k - set.base) i && has_bit set.words (k - set.base))) && is_near n k then Irrelevant else Unknown

-- what bit i of it tells
abbrev pub said_one : ℕ → NumberSet → ℕ → ℕ → Known
said_one n set i k = if ((k == set.base + i) && has_bit set.words i) && is_near n k then Irrelevant else Unknown

-- the number is in the window and nothing is known of it
abbrev pub is_open : Window → ℕ → Bool
is_open w j = nat_le w.next j && (is_near w.next j && is_unknown (known_in w j))

-- the window with what is now known of the number j
abbrev pub with_known : Window → ℕ → Known → Window
with_known w j x = record { next = w.next; floor = w.floor; top = max w.top (j + 1); refused = w.refused && not (j == w.next); places = slice_set w.places (j % 256) x }

-- the window where all below `first` is irrelevant
abbrev pub with_floor : Window → ℕ → Window
with_floor w first = record { next = w.next; floor = max w.floor first; top = w.top; refused = w.refused && nat_le first w.next; places = w.places }

-- the window past its next number
abbrev pub past_next : Window → Window
past_next w = record { next = w.next + 1; floor = w.floor; top = w.top; refused = false; places = slice_set w.places (w.next % 256) Unknown }

-- the numbers from one up to below another of which the window knows nothing
abbrev pub missing_upto : Window → ℕ → ℕ → ℕ → Bool
missing_upto w start upto k = nat_le start k && (nat_lt k upto && is_unknown (known_in w k))

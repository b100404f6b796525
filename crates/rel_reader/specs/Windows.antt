-- What a proxy keeps, and how it stands for a story.
use Rattle.std.specs.Prelude.{refl, ◌≡◌, ℕ, ◌+◌, ◌-◌, ◌<◌, ◌≤◌, ◌^◌, ◌==◌, ◌&&◌, not, Bool, true, nat_lt, if◌then◌else◌, List, length}
use Rattle.std.specs.Coded.{Coded, coded_ℕ, coded_bool, coded_list, coded×, code_by}
use Rattle.rel_reader.specs.declared.known.Known.{Known}
use Rattle.rel_reader.specs.declared.known.Known.TheVariants.{Unknown, Irrelevant}
use Rattle.rel_reader.specs.contracts.known.Known as known_row
use Rattle.rel_reader.specs.Knowledge.{or_else, is_with}
use Rattle.rel_reader.specs.Stories.{Story, next}
use Rattle.rel_reader.specs.KnownNumbers.{known}
use Rattle.rel_reader.specs.Places.{place_at}

-- The next number; a floor, below which all numbers are irrelevant that no place speaks of; a top, from which on no place is
-- filled; whether the next number was refused and nothing came of it since; and a place for each of the 256 numbers from next on.
pub record Window : Type 0 where
  pub next : ℕ
  pub floor : ℕ
  pub top : ℕ
  pub refused : Bool
  pub places : List Known

abbrev pub coded_window : Coded Window
coded_window = code_by (ℕ × (ℕ × (ℕ × (Bool × List Known)))) (coded× coded_ℕ (coded× coded_ℕ (coded× coded_ℕ (coded× coded_bool (coded_list known_row.the_row.coded))))) (λ w. (w.next, (w.floor, (w.top, (w.refused, w.places))))) (λ p. record { next = p.0; floor = p.1.0; top = p.1.1.0; refused = p.1.1.1.0; places = p.1.1.1.1 }) (λ _. refl)

-- no place is filled from the top on
abbrev pub IsTop : Window → Type 0
IsTop w = (k : ℕ) → w.next ≤ k → w.top ≤ k → k < w.next + 256 → place_at w.places k ≡ Unknown

-- its numbers are sequence numbers, it has 256 places, and none is filled from the top on
pub record IsWindow (w : Window) : Type 0 where
  pub next : (0 < w.next) × (w.next < 2 ^ 63)
  pub floor : w.floor < 2 ^ 63
  pub length : length w.places ≡ 256
  pub top : w.top < 2 ^ 63
  pub above : IsTop w

-- what the places tell of a number
abbrev pub kept_at : Window → ℕ → Known
kept_at w k = if nat_lt k (w.next + 256) then place_at w.places k else Unknown

-- what the floor tells of a number: nothing of a refused one
abbrev pub below_floor : Window → ℕ → Known
below_floor w k = if nat_lt k w.floor && not (w.refused && (k == w.next)) then Irrelevant else Unknown

-- what the window knows of a number from next on
abbrev pub known_in : Window → ℕ → Known
known_in w k = or_else (kept_at w k) (below_floor w k)

-- the next number is known with a sample
abbrev pub HasSample : Window → Type 0
HasSample w = is_with (known_in w w.next) ≡ true

-- The window has the next number n, and knows what f tells of each number from n on; of 2^63 - 1 and above that is nothing.
pub record Shows (w : Window) (n : ℕ) (f : ℕ → Known) : Type 0 where
  pub next : w.next ≡ n
  pub each : (k : ℕ) → n ≤ k → known_in w k ≡ f k
  pub last : (k : ℕ) → 2 ^ 63 - 1 ≤ k → f k ≡ Unknown

-- The window fits the story: it has its next number, and knows of each number from there on what the story makes known.
abbrev pub Fits : Window → Story → Type 0
Fits w h = Shows w (next h) (known h)

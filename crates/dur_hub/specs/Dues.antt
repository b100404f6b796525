-- Up to when no lease ends.
use Rattle.std.specs.Prelude.{◌≡◌, ℕ, Bool, false, nat_lt, Option, Some, None, List}
use Rattle.std.specs.List.{AllByRecursion}
use Rattle.dur_hub.specs.Runs.{Writer}
use Rattle.dur_hub.specs.Leases.{is_overdue}

-- whether a moment is after this one; none is after none
abbrev pub is_after : Option ℕ → ℕ → Bool
is_after None now = false
is_after (Some due) now = nat_lt due now

-- A writer is not overdue at a moment that is not after this one.
abbrev pub IsDue : Option ℕ → Writer → Type 0
IsDue due w = (now : ℕ) → is_after due now ≡ false → is_overdue now w ≡ false

-- No writer is.
abbrev pub AreDue : Option ℕ → List Writer → Type 0
AreDue due ws = AllByRecursion (IsDue due) ws

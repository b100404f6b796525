use Rattle.std.proofs.Common.{◌≡◌, ◌<◌, ℕ, ◌||◌, take, false, get_or, length}
use Rattle.std.specs.Prelude.{◌==◌}
use Rattle.std.specs.List.{list_any}
use Rattle.dur_hub.proofs.left_behind.note_places.Given as goal

abbrev pub invariant-loop-place : goal.invariant-loop-place
invariant-loop-place l =
    (i : ℕ) → i < length l.fn.flags
    → get_or l.flags i false ≡ (get_or l.fn.flags i false || list_any (λ r. r == i) (take l.place-index l.places))

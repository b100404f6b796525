-- A skip: the longest range of irrelevant numbers from next on.
use Rattle.std.specs.Prelude.{◌≡◌, ℕ, ◌<◌, ◌≤◌}
use Rattle.rel_reader.specs.declared.known.Known.TheVariants.{Irrelevant}
use Rattle.rel_reader.specs.Stories.{Story, next}
use Rattle.rel_reader.specs.KnownNumbers.{known}

-- It has at least the next number, and all up to below `to`, which itself is not irrelevant.
pub record IsSkip (h : Story) (to : ℕ) : Type 0 where
  pub some : next h < to
  pub each : (k : ℕ) → next h ≤ k → k < to → known h k ≡ Irrelevant
  pub ends : known h to ≡ Irrelevant → ⊥

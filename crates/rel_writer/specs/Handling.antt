-- What the steps of a late reader come to.
use Rattle.std.specs.Prelude.{◌≡◌, ◌≤◌, ◌+◌, ℕ, Bool, false, if◌then◌else◌}
use Rattle.dur_base.specs.declared.fact.Fact.{Fact}
use Rattle.rel_reader.specs.Knowledge.{is_irrelevant}
use Rattle.rel_reader.specs.Stories.{next}
use Rattle.rel_reader.specs.KnownNumbers.{known}
use Rattle.rel_writer.specs.declared.late.LateReader.{LateReader}
use Rattle.rel_writer.specs.LateReaders.{Late, IsSettled, asks, drain, told}
use Rattle.rel_writer.specs.Room.{HasRoom, waiting}
use Rattle.rel_writer.specs.Standing.{Stands}

-- numbers were handled, and the next one is not irrelevant
pub record Passes (r : LateReader) (l : Late) : Type 0 where
  pub times : ℕ
  pub stands : Stands r (drain times l)
  pub passed : is_irrelevant (known (drain times l).story (next (drain times l).story)) ≡ false

-- numbers were handled: none with a sample, and then nothing is left, or one
pub record TakesOne (r : LateReader) (one : Bool) (l : Late) : Type 0 where
  pub times : ℕ
  pub stands : Stands r (drain times l)
  pub none : one ≡ false → IsSettled (drain times l)
  pub fewer : waiting (drain times l) + (if one then 1 else 0) ≤ waiting l

-- all was handled that is ready, and there is room for so many samples more
pub record Settles (more : ℕ) (r : LateReader) (l : Late) : Type 0 where
  pub times : ℕ
  pub stands : Stands r (drain times l)
  pub settled : IsSettled (drain times l)
  pub room : HasRoom more r (drain times l)

-- a fact came, and then all was handled that is ready
pub record HearsOne (more : ℕ) (r : LateReader) (asked : Bool) (f : Fact) (l : Late) : Type 0 where
  pub settles : Settles more r (told l f)
  pub says : asked ≡ asks (drain settles.times (told l f)) f

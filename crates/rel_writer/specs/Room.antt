-- The room that a late reader has for samples, and how many a datagram can make it take.
use Rattle.std.specs.Prelude.{suc, zero, ◌≤◌, ℕ, ◌+◌, if◌then◌else◌, vec_len, vec_capacity}
use Rattle.std.specs.Global.{Vec}
use Rattle.dur_base.specs.declared.fact.Fact.{Fact}
use Rattle.dur_base.specs.declared.fact.Fact.TheVariants.{Data}
use Rattle.rel_reader.specs.declared.known.Known.{Known}
use Rattle.rel_reader.specs.Knowledge.{is_with}
use Rattle.rel_reader.specs.Stories.{next}
use Rattle.rel_reader.specs.KnownNumbers.{known}
use Rattle.rel_writer.specs.declared.late.LateReader.{LateReader}
use Rattle.rel_writer.specs.LateReaders.{Late}

-- a DATA brings one sample at most, and no other fact one
abbrev pub brings : Fact → ℕ
brings (Data writer reader k raw) = 1
brings _ = 0

-- how many of so many numbers from k on have a sample
unfoldable pub samples_from : (ℕ → Known) → ℕ → ℕ → ℕ
samples_from f k zero = 0
samples_from f k (suc n) = (if is_with (f k) then 1 else 0) + samples_from f (k + 1) n

-- how many samples wait in the window to be handled
abbrev pub waiting : Late → ℕ
waiting l = samples_from (known l.story) (next l.story) 256

-- there is room for all that wait, and for so many more
abbrev pub HasRoom : ℕ → LateReader → Late → Type 0
HasRoom more r l = waiting l + more + vec_len r.taken.samples ≤ vec_capacity r.taken.samples

-- so many elements more came at most, and the room is no smaller
pub record Grows {X : Type 0} (more : ℕ) (old new : Vec X) : Type 0 where
  pub room : vec_capacity old ≤ vec_capacity new
  pub count : vec_len new ≤ vec_len old + more

use Rattle.std.proofs.Common.{◌+◌, ◌≤◌, ℕ}
use Rattle.std.specs.Prelude.{vec_len, vec_capacity}
use Rattle.rel_writer.specs.LateReaders.{Late, drain}
use Rattle.rel_writer.specs.Room.{Grows, waiting}
use Rattle.rel_writer.specs.Standing.{Stands}
use Rattle.rel_writer.proofs.late.LateReader.take_ready.Given as goal

-- each turn takes a sample, and so one fewer waits
abbrev pub invariant-loop-i : goal.invariant-loop-i
invariant-loop-i l = record {
  stands : (m : Late) → Stands l.fn.self m
      → (times : ℕ) × Stands l.self (drain times m) × (waiting (drain times m) + l.i ≤ waiting m);
  room : vec_len l.self.taken.samples + l.room ≤ vec_capacity l.self.taken.samples + l.i;
  grown : Grows l.i l.fn.self.taken.samples l.self.taken.samples;
}

use Rattle.std.proofs.Common.{◌≡◌, take, map}
use Rattle.dur_store.specs.Parts.{line_of}
use Rattle.dur_store.proofs.writer.lines_of.Given as goal

abbrev pub invariant-loop-writer : goal.invariant-loop-writer
invariant-loop-writer l = l.lines ≡ map line_of (take l.writer-index l.writers)

use Rattle.std.proofs.Common.{◌≡◌, ◌++◌, map}
use Rattle.dur_store.specs.Parts.{line_of}
use Rattle.dur_store.proofs.writer.writers_of.Given as goal

abbrev pub invariant-loop-line : goal.invariant-loop-line
invariant-loop-line l = map line_of l.writers.items ++ l.line-iterator.rest.items ≡ l.fn.lines

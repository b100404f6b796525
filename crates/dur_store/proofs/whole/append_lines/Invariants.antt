use Rattle.std.proofs.Common.{◌≡◌, ◌++◌}
use Rattle.dur_store.proofs.whole.append_lines.Given as goal

abbrev pub invariant-loop-line : goal.invariant-loop-line
invariant-loop-line l = l.all ++ l.line-iterator.rest.items ≡ l.fn.all ++ l.fn.lines

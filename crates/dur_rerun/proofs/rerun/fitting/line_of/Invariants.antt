use Rattle.std.proofs.Common.{◌≡◌, drop}
use Rattle.dur_view.specs.Words.{writer_line}
use Rattle.dur_rerun.proofs.rerun.fitting.line_of.Given as goal

-- what is looked for is among the lines that are left
abbrev pub invariant-loop-line : goal.invariant-loop-line
invariant-loop-line l = writer_line l.view.writers l.writer ≡ writer_line (drop l.line-index l.view.writers) l.writer

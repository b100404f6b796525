use Rattle.std.proofs.Common.{◌≡◌, map, take}
use Rattle.dur_view.specs.Full.{first_line}
use Rattle.dur_view.proofs.blank.first_lines.Given as goal

abbrev pub invariant-loop-writer : goal.invariant-loop-writer
invariant-loop-writer l = l.lines ≡ map first_line (take l.writer-index l.writers)

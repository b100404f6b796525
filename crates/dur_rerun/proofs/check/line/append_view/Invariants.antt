use Rattle.std.proofs.Common.{◌≡◌, ◌++◌, length}
use Rattle.std.specs.List.{flat_map}
use Rattle.dur_rerun.specs.Check.Line.{kept_line, kept_text}
use Rattle.dur_rerun.proofs.check.line.append_view.Given as goal

-- with the lines of the changes that are left it is the text
abbrev pub invariant-loop-rest : goal.invariant-loop-rest
invariant-loop-rest l = l.out.items ++ flat_map (kept_line l.view) l.rest ≡ l.fn.out.items ++ kept_text l.view

abbrev pub decreases-loop-rest : goal.decreases-loop-rest
decreases-loop-rest l = length l.rest

use Rattle.std.proofs.Common.{◌≡◌, drop}
use Rattle.dur_hub.specs.Replays.{line_of}
use Rattle.dur_hub.proofs.replays.reader_line.Given as goal

-- what is looked for is among the lines that are left
abbrev pub invariant-loop-line : goal.invariant-loop-line
invariant-loop-line l =
    line_of l.plan.readers l.reader ≡ line_of (drop l.line-index l.plan.readers) l.reader

use Rattle.std.proofs.Common.{◌≡◌, ◌+◌, drop}
use Rattle.dur_view.specs.Words.{place_in}
use Rattle.dur_view.proofs.effects.place_of.Given as goal

abbrev pub invariant-loop-line : goal.invariant-loop-line
invariant-loop-line l = (place_in l.start.writers l.writer ≡ l.place + place_in (drop l.line-index l.start.writers) l.writer) × (l.place ≡ l.line-index)

use Rattle.std.proofs.Common.{◌≡◌, ◌+◌, drop}
use Rattle.dur_view.specs.View.{key_place}
use Rattle.dur_view.proofs.view_kept.place_of.Given as goal

abbrev pub invariant-loop-line : goal.invariant-loop-line
invariant-loop-line l = (key_place l.lines l.key ≡ l.place + key_place (drop l.line-index l.lines) l.key) × (l.place ≡ l.line-index)

use Rattle.std.proofs.Common.{◌≡◌, take}
use Rattle.dur_view.proofs.view_lines.places_of.Given as goal

abbrev pub invariant-loop-place : goal.invariant-loop-place
invariant-loop-place l = l.list ≡ take l.place-index l.places

use Rattle.std.proofs.Common.{◌≡◌, ◌++◌, drop}
use Rattle.dur_hub.specs.LeftBehind.{left_from}
use Rattle.dur_hub.proofs.left_behind.left_behind.Given as goal

abbrev pub invariant-loop-place : goal.invariant-loop-place
invariant-loop-place l =
    l.leaving.items ++ left_from l.plan l.view l.place (drop l.place l.view.writers) ≡ left_from l.plan l.view 0 l.view.writers

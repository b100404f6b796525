use Rattle.std.proofs.Common.{◌≡◌, drop}
use Rattle.dur_qos.specs.Plan.{place_from, place_of}
use Rattle.dur_view.proofs.full.place_of.Given as goal

-- what is looked for is among the topics that are left
abbrev pub invariant-loop-place : goal.invariant-loop-place
invariant-loop-place l = place_of l.name l.topics ≡ place_from l.place l.name (drop l.place l.topics)

use Rattle.std.proofs.Common.{◌≡◌, map, take}
use Rattle.dur_view.specs.Persistent.{instance_stays}
use Rattle.dur_view.proofs.persistent.instances_stay.Given as goal

abbrev pub invariant-loop-instance : goal.invariant-loop-instance
invariant-loop-instance l = l.stays ≡ map (instance_stays l.view) (take l.instance-index l.view.instances)

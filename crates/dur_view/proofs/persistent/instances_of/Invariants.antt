use Rattle.std.proofs.Common.{◌≡◌, map, take}
use Rattle.std.specs.Prelude.{filter}
use Rattle.dur_view.specs.Persistent.{instance_among, instance_stays}
use Rattle.dur_view.proofs.persistent.instances_of.Given as goal

abbrev pub invariant-loop-instance : goal.invariant-loop-instance
invariant-loop-instance l = l.list ≡ map (instance_among l.view) (filter (instance_stays l.view) (take l.instance-index l.view.instances))

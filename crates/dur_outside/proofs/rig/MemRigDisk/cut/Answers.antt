use Rattle.std.proofs.Common.{subst}
use Rattle.dur_outside.specs.World.{Cuts}
use Rattle.dur_outside.specs.Memory.{disk_world}
use Rattle.dur_outside.specs.Given.{GivenRig}
use Rattle.dur_outside.proofs.Worlds.{cuts}
use Rattle.dur_outside.proofs.rig.MemRigDisk.cut.Goals as goal

pub returns-clause-cuts : goal.returns-clause-cuts
returns-clause-cuts c = λ _. subst
    (λ (r : GivenRig). Cuts c.args.file c.args.end c.cut_told.result (disk_world r.sink.written r.disk) (disk_world c.self.inside.sink.written c.cut_told.new.self))
    c.self.view_is
    (cuts _ _ _ c.self.inside.sink.written _ _ c.cut_told.ensures.done c.cut_told.ensures.none)

use Rattle.std.proofs.Common.{subst}
use Rattle.dur_outside.specs.World.{Syncs}
use Rattle.dur_outside.specs.Memory.{disk_world}
use Rattle.dur_outside.specs.Given.{GivenRig}
use Rattle.dur_outside.proofs.Worlds.{syncs}
use Rattle.dur_outside.proofs.rig.MemRigDisk.sync.Goals as goal

pub returns-clause-syncs : goal.returns-clause-syncs
returns-clause-syncs c = λ _. subst
    (λ (r : GivenRig). Syncs c.args.file c.sync_told.result (disk_world r.sink.written r.disk) (disk_world c.self.inside.sink.written c.sync_told.new.self))
    c.self.view_is
    (syncs _ _ c.self.inside.sink.written _ _ c.sync_told.ensures.done c.sync_told.ensures.none)

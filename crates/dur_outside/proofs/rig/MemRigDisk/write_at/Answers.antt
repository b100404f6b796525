use Rattle.std.proofs.Common.{◌≤◌, length, subst, sym}
use Rattle.dur_outside.specs.World.{Writes, content}
use Rattle.dur_outside.specs.Memory.{disk_world, image}
use Rattle.dur_outside.specs.Given.{GivenRig}
use Rattle.dur_outside.proofs.Worlds.{writes}
use Rattle.dur_outside.proofs.rig.MemRigDisk.write_at.Goals as goal

pub returns-clause-writes : goal.returns-clause-writes
returns-clause-writes c = λ _. subst
    (λ (r : GivenRig). Writes c.args.file c.args.at c.args.bytes.now c.write_told.result (disk_world r.sink.written r.disk) (disk_world c.self.inside.sink.written c.write_told.new.self))
    c.self.view_is
    (writes _ _ _ _ c.self.inside.sink.written _ _ (subst (λ (r : GivenRig). c.args.at ≤ length (content c.args.file (image r.sink.written r.disk))) (sym c.self.view_is) (c.requires tt)) c.write_told.ensures.done c.write_told.ensures.none)

use Rattle.std.proofs.Common.{◌<◌, length, take, arith}
use Rattle.rtps_frag.proofs.Places.{closed_at}
use Rattle.rtps_frag.proofs.joiner.Joiner.close.Goals as goal

pub returns : goal.returns
returns c =
    let within : c.args.i < length (take c.self.inside.count c.self.inside.slots.items) = rw (c.self.view_is) c.requires in
    rw (← c.self.view_is) (closed_at c.self.inside.slots.items c.to_the_end.new.slots.items _ c.self.inside.count c.args.i c.to_the_end.ensures.after within (omega (arith, c.self.invariant)))

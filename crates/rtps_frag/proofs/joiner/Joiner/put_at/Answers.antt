use Rattle.std.proofs.Common.{◌<◌, length, take}
use Rattle.rtps_frag.specs.Samples.{with_fragments}
use Rattle.rtps_frag.specs.Bodies.{brings}
use Rattle.rtps_frag.proofs.Places.{put_first}
use Rattle.rtps_frag.proofs.joiner.Joiner.put_at.Goals as goal

pub returns-clause-new : goal.returns-clause-new
returns-clause-new c =
    λ d.
    let within : c.args.i < length (take c.self.inside.count c.self.inside.slots.items) = rw (c.self.view_is) c.requires.within in
    rw (← c.self.view_is) (put_first c.put_among.result c.self.inside.slots.items c.put_among.new.slots.items c.self.inside.count c.args.i (with_fragments c.args.time (brings c.args.sub.now)) d within (c.put_among.ensures.new d))

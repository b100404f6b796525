use Rattle.rtps_frag.specs.Bodies.{brings}
use Rattle.rtps_frag.proofs.Places.{again_all}
use Rattle.rtps_frag.proofs.joiner.Joiner.again.Goals as goal

pub returns-clause-does : goal.returns-clause-does
returns-clause-does c =
    again_all c.settle.result c.args.time (brings c.args.sub.now) c.args.i c.args.self.now c.put_at.new.self c.settle.new.self c.requires.within c.if-not-put_at.ensures.same c.if-not-put_at.ensures.new c.settle.ensures.does

use Rattle.std.proofs.Common.{◌-◌, ◌∷◌, [], ap, length, length-append, arith}
use Rattle.rtps_frag.specs.Bodies.{brings}
use Rattle.rtps_frag.specs.Samples.{opening, with_fragments}
use Rattle.rtps_frag.proofs.Places.{anew_all}
use Rattle.rtps_frag.proofs.joiner.Joiner.anew.Goals as goal

pub returns-clause-does : goal.returns-clause-does
returns-clause-does c =
    anew_all c.settle.result c.args.writer c.args.time (brings c.args.sub.now) c.args.self.now c.make_room.new.self c.add.new.self c.settle.new.self (c.open-last.result - 1) (omega (arith, c.if-sub-gt-LONGEST_PAYLOAD.false)) c.make_room.ensures.room
    c.in_ok-add.ensures (omega (arith, c.open-last.ensures.value, ap length c.in_ok-add.ensures, length-append c.make_room.new.self (with_fragments c.args.time (brings c.args.sub.now) (opening c.args.writer (brings c.args.sub.now)) ∷ []))) c.settle.ensures.does

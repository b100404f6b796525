use Rattle.std.proofs.Common.{arith}
use Rattle.rel_writer.specs.LateReaders.{drain}
use Rattle.rel_writer.proofs.Steps.{left_full, left_none, one_taken, grown_more}
use Rattle.rel_writer.proofs.late.LateReader.take_ready.Goals as goal

pub returns-then-not-take_one : goal.returns-then-not-take_one
returns-then-not-take_one c = λ m more st room.
    let s = c.loop-i.invariant.stands m st in
    left_none c.args.self.now c.loop-i.self c.take_one.new.self m more c.loop-i.i s.0
    c.take_one.result
    c.if-not-take_one.true s.2 room c.loop-i.invariant.grown c.take_one.ensures.grows
    (c.take_one.ensures.handled (drain s.0 m) s.1)

pub loop-i-preserved : goal.loop-i-preserved
loop-i-preserved c =
    let grown = grown_more c.args.self.now c.loop-i.self c.take_one.new.self c.loop-i.i
    c.take_one.result
    c.if-not-take_one.false c.loop-i.invariant.grown c.take_one.ensures.grows in
    record {
      stands = λ m st.
          let s = c.loop-i.invariant.stands m st in
          one_taken c.take_one.new.self m s.0 c.loop-i.i c.take_one.result c.if-not-take_one.false
          s.2
          (c.take_one.ensures.handled (drain s.0 m) s.1);
      room = omega (arith, c.loop-i.invariant.room, grown.1.room, grown.1.count);
      grown = grown.0;
    }

pub returns : goal.returns
returns c = λ m more st room.
    let s = c.loop-i.invariant.stands m st in
    left_full c.args.self.now c.loop-i.self c.pass.new.self m more c.loop-i.i s.0
    (omega (arith, c.loop-i-test.false, c.loop-i.auto.i-end, c.room-room.ensures)) s.1 s.2 room
    c.loop-i.invariant.grown c.pass.ensures.taken (c.pass.ensures.handled (drain s.0 m) s.1)

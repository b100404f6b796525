use Rattle.std.proofs.Common.{arith}
use Rattle.rel_writer.proofs.Marks.{begins, marks_one, all_marked}
use Rattle.rel_writer.proofs.members.mark_all.Goals as goal

pub loop-at-init : goal.loop-at-init
loop-at-init c = begins c.args.changes.now

pub loop-at-preserved : goal.loop-at-preserved
loop-at-preserved c =
    marks_one c.args.changes.now c.loop-at.changes c.mark_one-last.new.changes c.loop-at.at
    c.loop-at.last
    c.mark_one-last.result (omega (arith, c.loop-at-test.true)) c.loop-at.invariant
    c.mark_one-last.ensures.member c.mark_one-last.ensures.marked

pub returns : goal.returns
returns c =
    all_marked c.args.changes.now c.loop-at.changes c.loop-at.at c.loop-at.last
    (omega (arith, c.loop-at-test.false)) c.loop-at.invariant

use Rattle.std.proofs.Common.{◌≡◌, ◌-◌, ◌∙◌, take, drop, arith}
use Rattle.rtps_frag.proofs.Pieces.{begins_within, ends_within, some_more}
use Rattle.rtps_frag.proofs.sample.Slot.put_some.Goals as goal

pub put_one-requires-clause-begins : goal.put_one-requires-clause-begins
put_one-requires-clause-begins c =
    begins_within c.loop-left.k c.loop-left.left c.args.first c.args.count c.loop-left.self.width c.args.self.now.width c.loop-left.self.size c.args.self.now.size
    c.loop-left.invariant.all c.loop-left.invariant.more (omega (arith, c.loop-left-test.true)) c.loop-left.invariant.width c.loop-left.invariant.size c.requires.last

pub loop-left-preserved : goal.loop-left-preserved
loop-left-preserved c =
    let first : c.first_of.result.0.now ≡ take c.loop-left.self.width c.loop-left.rest.now = rw (← c.self.view_is) c.first_of.ensures.first in
    let later : c.first_of.result.1.now ≡ drop c.loop-left.self.width c.loop-left.rest.now = rw (← c.self.view_is) c.first_of.ensures.later in
    let stays : c.put_one.new.self.width ≡ c.loop-left.self.width = c.put_one.ensures.width in
    record {
      goes_on = some_more c.loop-left.k c.loop-left.left (c.loop-left.left - 1) c.loop-left.rest.now c.first_of.result.0.now c.first_of.result.1.now c.loop-left.self c.put_one.new.self (omega (arith, c.loop-left-test.true)) first later c.put_one.ensures.new ∙ c.loop-left.invariant.goes_on;
      all = omega (arith, c.loop-left.invariant.all, c.loop-left-test.true);
      more = omega (arith, c.loop-left.invariant.more);
      width = stays ∙ c.loop-left.invariant.width;
      size = c.put_one.ensures.size ∙ c.loop-left.invariant.size;
      ends = ends_within c.loop-left.k c.loop-left.self.width c.loop-left.self.size c.put_one.new.self.width c.put_one.new.self.size c.loop-left.rest.now c.first_of.result.1.now c.loop-left.invariant.ends later stays c.put_one.ensures.size;
    }

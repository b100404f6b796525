use Rattle.std.proofs.Common.{arith}
use Rattle.rtps_frag.specs.Asking.{is_asked}
use Rattle.rtps_frag.proofs.Words.{digits_fit, word_done}
use Rattle.rtps_frag.proofs.asks.word.Goals as goal

pub overflow_mul-word : goal.overflow_mul-word
overflow_mul-word c = let fit = digits_fit (is_asked c.args.came.now c.args.last) c.args.k c.loop-n.n c.loop-n.word c.loop-n.invariant.value (omega (arith, c.loop-n-test.true)) in omega (arith, fit)

pub overflow_add-word : goal.overflow_add-word
overflow_add-word c = let fit = digits_fit (is_asked c.args.came.now c.args.last) c.args.k c.loop-n.n c.loop-n.word c.loop-n.invariant.value (omega (arith, c.loop-n-test.true)) in grind (arith, fit, c.from.ensures)

pub returns : goal.returns
returns c = word_done (is_asked c.args.came.now c.args.last) c.args.k c.loop-n.n c.loop-n.word c.loop-n.invariant.value c.loop-n.invariant.within (omega (arith, c.loop-n-test.false))

use Rattle.std.proofs.Common.{get_or, refl, arith}
use Rattle.rtps_frag.proofs.Marks.{one_word_more, unset_in_word}
use Rattle.rtps_frag.proofs.arrived.first_unset.Goals as goal

pub returns-then-word-clause-some : goal.returns-then-word-clause-some
returns-then-word-clause-some c =
    rw (c.trailing_ones.ensures)
    (unset_in_word c.args.words.now c.loop-q.q (get_or c.args.words.now c.loop-q.q 0) c.loop-q.invariant.set (omega (arith, c.if-word.true, c.type_inv.words c.loop-q.q)) refl)

pub loop-q-preserved : goal.loop-q-preserved
loop-q-preserved c = record {
  set = one_word_more c.args.words.now c.loop-q.q (get_or c.args.words.now c.loop-q.q 0) c.loop-q.invariant.set (omega (arith, c.if-word.false)) refl;
  within = omega (arith, c.loop-q-test.true);
}

pub returns-clause-none : goal.returns-clause-none
returns-clause-none c = λ k within. c.loop-q.invariant.set k (omega (arith, within, c.loop-q-test.false))

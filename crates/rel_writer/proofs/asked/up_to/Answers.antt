use Rattle.std.proofs.Common.{◌∙◌, ◌+◌, ap, arith, refl}
use Rattle.std.specs.Prelude.{◌==◌, ◌&&◌, ◌||◌, nat_le}
use Rattle.rel_writer.proofs.Picking.{among, among_more}
use Rattle.rel_writer.proofs.asked.up_to.Goals as goal

pub loop-i-preserved : goal.loop-i-preserved
loop-i-preserved c = record {
  base = c.push_if.ensures.base ∙ c.loop-i.invariant.base;
  count = omega (arith, c.push_if.ensures.count);
  named = λ k.
      c.push_if.ensures.names k
      ∙ ap (λ b. b || (c.both-asked.result && (k == c.loop-i.some.base + c.loop-i.i)))
      (c.loop-i.invariant.named k)
      ∙ ap (λ n. (among c.args.set.now c.loop-i.i k && nat_le k c.args.last)
      || (c.both-asked.result && (k == n + c.loop-i.i))) c.loop-i.invariant.base
      ∙ among_more c.args.set.now c.loop-i.i c.args.last k c.both-asked.result
      (c.both-asked.ensures ∙ rw (c.has.ensures, c.get.ensures.value, c.base-base.ensures) refl);
}

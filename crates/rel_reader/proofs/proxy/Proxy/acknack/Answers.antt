use Rattle.std.proofs.Common.{◌≡◌, ◌+◌, ◌-◌, ◌==◌, ◌||◌, ◌&&◌, ◌∙◌, ap, arith}
use Rattle.rel_reader.specs.Windows.{Window}
use Rattle.rel_reader.specs.Steps.{missing_upto}
use Rattle.rel_reader.proofs.Missing.{missing_more, missing_to}
use Rattle.rel_reader.proofs.proxy.Proxy.acknack.Goals as goal

pub loop-k-preserved : goal.loop-k-preserved
loop-k-preserved c = record {
  base = c.push_if.ensures.base ∙ c.loop-k.invariant.base;
  count = omega (arith, c.push_if.ensures.count);
  named = λ j.
      let place : c.loop-k.set.base + (c.loop-k.k - c.get-base.result) ≡ c.loop-k.k = omega (arith, c.loop-k.invariant.base) in
      c.push_if.ensures.names j
      ∙ ap (λ t. t || (c.is_unknown.result && (j == c.loop-k.set.base + (c.loop-k.k - c.get-base.result)))) (c.loop-k.invariant.named j)
      ∙ ap (λ i. missing_upto c.args.self.now c.self.inside.next c.loop-k.k j || (c.is_unknown.result && (j == i))) place
      ∙ missing_more c.args.self.now _ c.loop-k.k _ j (omega arith) c.is_unknown.ensures;
}

pub returns-clause-missing : goal.returns-clause-missing
returns-clause-missing c = λ h s k. c.loop-k.invariant.named k ∙ missing_to _ h _ _ _ _ k (ap (λ (w : Window). w.next) c.self.view_is) (omega (arith, c.max-end.ensures, c.min.ensures, c.get-base.ensures.value)) s

use Rattle.std.proofs.Common.{rules, arith, ◌∙◌}
use Rattle.dur_rerun.proofs.Says.{says_more}
use Rattle.dur_rerun.proofs.output.say.Goals as goal

pub loop-rest-preserved : goal.loop-rest-preserved
loop-rest-preserved g c = record {
  said = λ told. says_more _ _ _ _ _ _ _ (c.loop-rest.invariant.said told) (c.in_ok-count.ensures.sends told) (search rules);
  within = search rules;
  disk = c.in_ok-count.ensures.keeps ∙ c.loop-rest.invariant.disk;
  later = omega (arith, c.loop-rest.invariant.later, c.in_ok-count.ensures.cause);
}

use Rattle.std.proofs.Common.{rules, arith, ◌∙◌}
use Rattle.dur_rerun.proofs.SaysThrough.{is_ready, more, fails}
use Rattle.dur_rerun.proofs.rerun.saying.say_through.Goals as goal

pub loop-rest-preserved : goal.loop-rest-preserved
loop-rest-preserved g c = record {
  saying = λ told.
      more _ _ _ _ _ _ _ _ _ _ (c.loop-rest.invariant.saying told) (c.in_ok-count.ensures.sends told) (c.put.ensures.stands told) (search rules);
  same = search rules;
  within = search rules;
  later = omega (arith, c.loop-rest.invariant.later, c.in_ok-count.ensures.cause);
  keeps = c.in_ok-count.ensures.keeps ∙ c.loop-rest.invariant.keeps;
}

pub returns-in_err-count-clause-ready : goal.returns-in_err-count-clause-ready
returns-in_err-count-clause-ready g c told =
    is_ready _ _ _ _ (c.put.ensures.stands told) (c.loop-rest.invariant.saying told).ready

pub returns-in_err-count-clause-says : goal.returns-in_err-count-clause-says
returns-in_err-count-clause-says g c told =
    let failed = fails _ _ _ _ _ _ _ _ c.in_err-count.field-0.0 (c.loop-rest.invariant.saying told) (c.in_err-count.ensures.sends told) (c.put.ensures.stands told) in
    search (rules, failed)

use Rattle.std.proofs.Common.{refl, [], subst}
use Rattle.dur_hub.specs.Hubs.{Stands}
use Rattle.dur_hub.specs.Openings.{MayOpen}
use Rattle.dur_hub.specs.Runs.{opening}
use Rattle.dur_rerun.specs.Rerun.Opening.{IsOpening}
use Rattle.dur_rerun.proofs.rerun.begin.Goals as goal

pub returns : goal.returns
returns c = record {
  own = c.own_prefix-own.ensures;
  plan_is = refl;
  may = c.if-not-may_open.ensures refl;
  opens = subst (λ p. IsOpening p (opening p c.args.view 0)) c.in_ok-kept.ensures c.in_ok-hub.ensures.opens;
  stands = subst (λ p. Stands (opening p c.args.view 0) [] c.in_ok-hub.hub) c.in_ok-kept.ensures c.in_ok-hub.ensures.stands;
  none = c.new.ensures;
}

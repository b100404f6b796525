use Rattle.std.proofs.Common.{inl, inr, refl, subst, arith}
use Rattle.dur_rerun.specs.Input.Breaks.{EndsPlan}
use Rattle.dur_rerun.proofs.Completes.{complete_so}
use Rattle.dur_rerun.proofs.Opened.{plan_good}
use Rattle.dur_rerun.proofs.Reruns.{plan_behind}
use Rattle.dur_rerun.proofs.rerun.rerun.Goals as goal

pub run_plan-requires-clause-good : goal.run_plan-requires-clause-good
run_plan-requires-clause-good g c =
    let o = c.in-Ok.ensures.opens in
    plan_good o.0 c.in-Ok.opened o.2

pub returns-in-Ok-clause-runs : goal.returns-in-Ok-clause-runs
returns-in-Ok-clause-runs g c =
    let o = c.in-Ok.ensures.opens in
    inr (plan_behind _ _ o.0 c.in-Ok.opened o.2 c.run_plan.result.status g.R.Machine.tells (g.R.Machine.world c.args.rig) (g.R.Machine.world c.run_plan.result.rig) o.1 c.run_plan.ensures.runs)

pub returns-in-Ok-clause-causes : goal.returns-in-Ok-clause-causes
returns-in-Ok-clause-causes g c = record {
  done = c.run_plan.ensures.end;
  read = λ e. omega (arith, c.run_plan.ensures.read e, c.in-Ok.ensures.later);
  write = c.run_plan.ensures.write;
  disk = c.run_plan.ensures.disk;
}

pub returns-in-Err-clause-causes : goal.returns-in-Err-clause-causes
returns-in-Err-clause-causes g c = record {
  done = λ e. absurd (subst EndsPlan e c.in-Err.ensures.ends);
  read = c.in-Err.ensures.read;
  write = λ e. absurd (subst EndsPlan e c.in-Err.ensures.ends);
  disk = λ e. absurd (subst EndsPlan e c.in-Err.ensures.ends);
}

pub returns-in-Ok-clause-complete : goal.returns-in-Ok-clause-complete
returns-in-Ok-clause-complete g c = λ bytes is whole none.
    let o = c.in-Ok.ensures.opens in
    let w = g.R.Machine.world c.args.rig in
    let v = g.R.Machine.world c.run_plan.result.rig in
    complete_so _ c.run_plan.result.status g.R.Machine.tells c.args.rig c.run_plan.result.rig w v _ _ _ bytes
    (inr (plan_behind _ _ o.0 c.in-Ok.opened o.2 c.run_plan.result.status g.R.Machine.tells w v o.1 c.run_plan.ensures.runs))
    (λ e. omega (arith, c.run_plan.ensures.read e, c.in-Ok.ensures.later)) c.run_plan.ensures.write c.run_plan.ensures.disk is whole none.read none.write none.disk

pub returns-in-Err-clause-complete : goal.returns-in-Err-clause-complete
returns-in-Err-clause-complete g c = λ bytes is whole none.
    complete_so _ c.in-Err.status g.R.Machine.tells c.args.rig c.args.rig (g.R.Machine.world c.args.rig) (g.R.Machine.world c.args.rig) _ ⊥ ⊥ bytes
    (inl (record { ends = c.in-Err.ensures.ends; breaks = c.in-Err.ensures.stops; same = refl }))
    c.in-Err.ensures.read (λ e. absurd (subst EndsPlan e c.in-Err.ensures.ends)) (λ e. absurd (subst EndsPlan e c.in-Err.ensures.ends)) is whole none.read (λ no. no) (λ no. no)

use Rattle.std.proofs.Common.{inr}
use Rattle.dur_rerun.proofs.Reruns.{runs_on, opened_from}
use Rattle.dur_rerun.proofs.rerun.run_plan.Goals as goal

pub returns-in-Ok-clause-runs : goal.returns-in-Ok-clause-runs
returns-in-Ok-clause-runs g c =
    let s = c.serve.ensures.runs in
    inr (runs_on c.args.plan c.in-Ok.found.view c.in-Ok.found.epoch s.records _ c.serve.result.status g.R.Machine.tells (g.R.Machine.world c.args.rig) (g.R.Machine.world c.in-Ok.found.journal.disk) (g.R.Machine.world c.serve.result.rig)
    s.reads c.serve.ensures.ends (λ told. opened_from c.args.plan _ c.in-Ok.found _ (c.in-Ok.ensures.ok told)) (λ told. (c.in-Ok.ensures.ok told).out) (λ told. g.met.R.Disk.sound told c.args.rig) c.in-Ok.ensures.run s.runs)

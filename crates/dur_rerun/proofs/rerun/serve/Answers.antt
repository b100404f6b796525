use Rattle.std.proofs.Common.{[], sym, subst}
use Rattle.std.proofs.KnownBytes.{Consumes-nil}
use Rattle.dur_hub.specs.Runs.{opening}
use Rattle.dur_rerun.specs.Rerun.Answer.{RunsOver, kept_first}
use Rattle.dur_rerun.specs.Input.Prefix.{own_prefix}
use Rattle.dur_rerun.proofs.Recording.{first_told}
use Rattle.dur_rerun.proofs.Reruns.{begins_so, starts_so, none_run, serves_so}
use Rattle.dur_rerun.proofs.Reading.{feeds_first}
use Rattle.dur_rerun.specs.declared.status.Status.TheVariants.{Done, OutOfMemory}
use Rattle.dur_rerun.proofs.rerun.serve.Goals as goal

pub returns-in-Err-clause-runs : goal.returns-in-Err-clause-runs
returns-in-Err-clause-runs g c = record {
  records = [];
  reads = first_told _ _ c.args.feed.before c.args.feed.left [] [] c.args.feed (Consumes-nil _) (feeds_first c.args.feed c.requires.fresh);
  runs = λ told.
      let w = g.R.Machine.world c.args.found.journal.disk in
      subst (λ d. RunsOver (own_prefix c.args.found.epoch c.args.plan) c.args.plan (kept_first c.args.found.view c.args.found.epoch) (opening c.args.plan c.args.found.view 0) [] OutOfMemory w (g.R.Machine.world d)) (sym c.close.ensures)
      (none_run (own_prefix c.args.found.epoch c.args.plan) c.args.plan (kept_first c.args.found.view c.args.found.epoch) (opening c.args.plan c.args.found.view 0) w);
}

pub answer_all-requires-clause-ready : goal.answer_all-requires-clause-ready
answer_all-requires-clause-ready g c = λ told.
    starts_so c.args.plan c.args.found.view c.args.found.epoch c.in-Ok.service c.args.found.journal (g.R.Machine.world c.args.found.journal.disk) c.requires.good c.requires.kept c.in-Ok.ensures c.requires.none (c.requires.ready told)

pub returns-in-Ok-answer_all-clause-runs : goal.returns-in-Ok-answer_all-clause-runs
returns-in-Ok-answer_all-clause-runs g c =
    let all = c.in-Ok-answer_all.ensures.runs (opening c.args.plan c.args.found.view 0) (begins_so c.args.plan c.args.found.view c.args.found.epoch c.in-Ok.service c.args.found.journal.position c.in-Ok.ensures c.requires.none) in
    record {
      records = all.0;
      reads = all.1;
      runs = λ told.
          let w = g.R.Machine.world c.args.found.journal.disk in
          subst (λ d. RunsOver (own_prefix c.args.found.epoch c.args.plan) c.args.plan (kept_first c.args.found.view c.args.found.epoch) (opening c.args.plan c.args.found.view 0) all.0 Done w (g.R.Machine.world d)) (sym c.close-in-Ok-answer_all.ensures)
          (serves_so c.args.plan c.args.found.view c.args.found.epoch c.in-Ok.service c.args.found.journal all.0 Done w (g.R.Machine.world c.in-Ok-answer_all.journal.disk) c.requires.good c.requires.kept c.in-Ok.ensures (c.requires.ready told) (all.2 told));
    }

pub returns-clause-runs : goal.returns-clause-runs
returns-clause-runs g c =
    let all = c.in-Err-answer_all.ensures.runs (opening c.args.plan c.args.found.view 0) (begins_so c.args.plan c.args.found.view c.args.found.epoch c.in-Ok.service c.args.found.journal.position c.in-Ok.ensures c.requires.none) in
    record {
      records = all.0;
      reads = all.1;
      runs = λ told.
          serves_so c.args.plan c.args.found.view c.args.found.epoch c.in-Ok.service c.args.found.journal all.0 c.in-Err-answer_all.status (g.R.Machine.world c.args.found.journal.disk) (g.R.Machine.world c.in-Err-answer_all.rig)
          c.requires.good c.requires.kept c.in-Ok.ensures (c.requires.ready told) (all.2 told);
    }

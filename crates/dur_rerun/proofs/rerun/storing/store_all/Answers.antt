use Rattle.std.proofs.Common.{arith, refl, ◌∙◌}
use Rattle.dur_rerun.proofs.BatchRuns.{stored_first, stored_more, left_more, ended_passes, ended_kept, fewer, settled_on, ready_on, fails_so}
use Rattle.dur_rerun.proofs.rerun.storing.store_all.Goals as goal

pub batches-init : goal.batches-init
batches-init g c = record {
  so_far = λ begun log settled. stored_first g.R.Machine.tells begun log c.args.journal c.args.hub.now (g.R.Machine.world c.args.journal.disk) settled;
  later = omega arith;
  keeps = refl;
}

pub store_batch-requires-clause-ready : goal.store_batch-requires-clause-ready
store_batch-requires-clause-ready g c = λ told.
    ready_on g.R.Machine.tells c.args.journal c.batches.journal c.args.hub.now c.batches.hub (g.R.Machine.world c.args.journal.disk) (g.R.Machine.world c.batches.journal.disk) (c.requires.ready told) c.batches.invariant.so_far told

pub store_batch-requires-clause-settled : goal.store_batch-requires-clause-settled
store_batch-requires-clause-settled g c =
    settled_on g.R.Machine.tells c.args.journal c.batches.journal c.args.hub.now c.batches.hub (g.R.Machine.world c.args.journal.disk) (g.R.Machine.world c.batches.journal.disk) c.requires.settled c.batches.invariant.so_far

pub batches-smaller : goal.batches-smaller
batches-smaller g c =
    fewer c.batches.journal c.in-Ok.after c.batches.hub c.store_batch.new.hub c.has_pending.result
    (settled_on g.R.Machine.tells c.args.journal c.batches.journal c.args.hub.now c.batches.hub (g.R.Machine.world c.args.journal.disk) (g.R.Machine.world c.batches.journal.disk) c.requires.settled c.batches.invariant.so_far)
    c.in-Ok.ensures.passes c.has_pending.ensures c.batches-test.true

pub batches-preserved : goal.batches-preserved
batches-preserved g c = record {
  so_far = λ begun log settled.
      stored_more g.R.Machine.tells begun log c.args.journal c.batches.journal c.in-Ok.after c.batches.hub c.store_batch.new.hub (g.R.Machine.world c.args.journal.disk) (g.R.Machine.world c.batches.journal.disk) (g.R.Machine.world c.in-Ok.after.disk)
      (c.batches.invariant.so_far begun log settled) c.in-Ok.ensures.passes c.in-Ok.ensures.run c.in-Ok.ensures.kept (λ told. g.met.R.Disk.sound told c.batches.journal.disk) (λ told. g.met.R.Disk.sound told c.in-Ok.after.disk)
      c.has_pending.result c.has_pending.ensures c.batches-test.true;
  later = omega (arith, c.batches.invariant.later, c.in-Ok.ensures.later);
  keeps = c.in-Ok.ensures.keeps ∙ c.batches.invariant.keeps;
}

pub returns-in-Err-clause-run : goal.returns-in-Err-clause-run
returns-in-Err-clause-run g c = λ told plan k begun log stands settled keeping.
    left_more g.R.Machine.tells begun log c.args.journal c.batches.journal c.batches.hub (g.R.Machine.world c.args.journal.disk) (g.R.Machine.world c.batches.journal.disk) (g.R.Machine.world c.in-Err.cut.1) plan k
    (c.batches.invariant.so_far begun log settled) told stands keeping (c.in-Err.ensures.run told)

pub returns-in-Err-clause-fails : goal.returns-in-Err-clause-fails
returns-in-Err-clause-fails g c = λ told plan k begun log stands settled keeping.
    fails_so g.R.Machine.tells begun log c.args.journal c.batches.journal c.batches.hub (g.R.Machine.world c.args.journal.disk) (g.R.Machine.world c.batches.journal.disk) plan k c.in-Err.cut.0
    (c.batches.invariant.so_far begun log settled) c.in-Err.ensures.fails told stands keeping

pub returns-clause-run : goal.returns-clause-run
returns-clause-run g c = λ told plan k begun log stands settled keeping.
    ((c.batches.invariant.so_far begun log settled).kept told plan k stands keeping).left

pub returns-clause-kept : goal.returns-clause-kept
returns-clause-kept g c = λ told plan k begun log stands settled keeping.
    ended_kept g.R.Machine.tells begun log c.args.journal c.batches.journal c.batches.hub (g.R.Machine.world c.args.journal.disk) (g.R.Machine.world c.batches.journal.disk) c.has_pending.result plan k
    (c.batches.invariant.so_far begun log settled) c.has_pending.ensures c.batches-test.false told stands keeping

pub returns-clause-passes : goal.returns-clause-passes
returns-clause-passes g c = λ begun log settled.
    ended_passes g.R.Machine.tells begun log c.args.journal c.batches.journal c.batches.hub (g.R.Machine.world c.args.journal.disk) (g.R.Machine.world c.batches.journal.disk) c.has_pending.result
    (c.batches.invariant.so_far begun log settled) c.has_pending.ensures c.batches-test.false

use Rattle.std.proofs.Common.{arith, [], ◌∷◌, ◌++◌, sym, subst}
use Rattle.std.proofs.KnownBytes.{Consumes-trans, Consumes-nil}
use Rattle.dur_rerun.specs.Rerun.Answer.{RunsOver}
use Rattle.dur_rerun.proofs.Courses.{answered_first, answered_next, serves_on, ready_on, plan_on, ends_reading, ends_handling, ends_last}
use Rattle.dur_rerun.proofs.Recording.{first_told, whole_told, ended_told, stopped_reading, stopped_handling, last_reading}
use Rattle.dur_rerun.proofs.Serving.{may_store}
use Rattle.dur_rerun.proofs.Reading.{feeds_first, feeds_next}
use Rattle.dur_rerun.proofs.rerun.course.answer_all.Goals as goal

pub records-init : goal.records-init
records-init g c = record {
  seen = [];
  consumed = Consumes-nil _;
  records = [];
  feeds = feeds_first c.args.feed c.requires.fresh;
  so_far = λ begun serves. answered_first g.R.Machine.tells begun c.args.service.now c.args.journal (g.R.Machine.world c.args.journal.disk) serves c.requires.none;
  reads = omega arith;
  writes = omega arith;
  disks = omega arith;
}

pub handle-requires-clause-ready : goal.handle-requires-clause-ready
handle-requires-clause-ready g c =
    let i = c.records.invariant in
    ready_on g.R.Machine.tells c.args.service.now.own i.records c.args.journal c.records.journal c.args.service.now c.records.service (g.R.Machine.world c.args.journal.disk) (g.R.Machine.world c.records.journal.disk)
    c.requires.ready i.so_far

pub handle-requires-clause-serves : goal.handle-requires-clause-serves
handle-requires-clause-serves g c =
    let i = c.records.invariant in
    serves_on g.R.Machine.tells c.args.service.now.own i.records c.args.journal c.records.journal c.args.service.now c.records.service (g.R.Machine.world c.args.journal.disk) (g.R.Machine.world c.records.journal.disk)
    c.requires.begins i.so_far

pub handle-requires-clause-good : goal.handle-requires-clause-good
handle-requires-clause-good g c =
    let i = c.records.invariant in
    plan_on g.R.Machine.tells c.args.service.now.own i.records c.args.journal c.records.journal c.args.service.now c.records.service (g.R.Machine.world c.args.journal.disk) (g.R.Machine.world c.records.journal.disk)
    c.requires.begins i.so_far c.requires.good

pub returns-in-Err-handle-clause-runs : goal.returns-in-Err-handle-clause-runs
returns-in-Err-handle-clause-runs g c = λ begun serves.
    let i = c.records.invariant in
    let r = rw c.in-Ok-Some.field-0-is at c.in-Ok-Some.ensures.some in
    let rs = i.records ++ c.in-Ok-Some.datagram ∷ [] in
    let feeds = feeds_next c.args.feed.before c.args.feed.left i.seen r.seen i.records c.records.feed _ _ i.feeds r.takes in (
      rs,
      stopped_handling c.in-Err-handle.cut.0 _ c.args.feed.before c.args.feed.left rs c.in-Err-handle.ensures.ends
          (first_told _ _ c.args.feed.before c.args.feed.left (i.seen ++ r.seen) rs _ (Consumes-trans _ _ _ _ _ i.consumed r.consumed) feeds),
      λ told plan k stands keeping.
          ends_handling g.R.Machine.tells c.args.service.now.own begun i.records c.in-Ok-Some.datagram c.args.journal c.records.journal c.records.service (g.R.Machine.world c.args.journal.disk) (g.R.Machine.world c.records.journal.disk)
          (g.R.Machine.world c.in-Err-handle.cut.1) c.in-Err-handle.cut.0 plan k (i.so_far begun serves) c.in-Err-handle.ensures.ends c.in-Err-handle.ensures.run c.in-Err-handle.ensures.full told stands keeping,
    )

pub records-preserved-in-Ok : goal.records-preserved-in-Ok
records-preserved-in-Ok g c =
    let i = c.records.invariant in
    let r = rw c.in-Ok-Some.field-0-is at c.in-Ok-Some.ensures.some in
    record {
      seen = i.seen ++ r.seen;
      consumed = Consumes-trans _ _ _ _ _ i.consumed r.consumed;
      records = i.records ++ c.in-Ok-Some.datagram ∷ [];
      feeds = feeds_next c.args.feed.before c.args.feed.left i.seen r.seen i.records c.records.feed _ _ i.feeds r.takes;
      so_far = λ begun serves.
          let s = i.so_far begun serves in
          answered_next g.R.Machine.tells c.args.service.now.own begun i.records c.in-Ok-Some.datagram c.args.journal c.records.journal c.in-Ok.after c.records.service c.handle.new.service
          (g.R.Machine.world c.args.journal.disk) (g.R.Machine.world c.records.journal.disk) (g.R.Machine.world c.in-Ok.after.disk) s (c.in-Ok.ensures.handled begun s.log s.serves) c.in-Ok.ensures.run;
      reads = omega (arith, i.reads, c.in-Ok-Some.ensures.later);
      writes = omega (arith, i.writes, c.in-Ok.ensures.writes);
      disks = omega (arith, i.disks, c.in-Ok.ensures.disks);
    }

pub records-preserved : goal.records-preserved
records-preserved g c =
    let i = c.records.invariant in
    let r = rw c.in-Ok-Some.field-0-is at c.in-Ok-Some.ensures.some in
    record {
      seen = i.seen ++ r.seen;
      consumed = Consumes-trans _ _ _ _ _ i.consumed r.consumed;
      records = i.records ++ c.in-Ok-Some.datagram ∷ [];
      feeds = feeds_next c.args.feed.before c.args.feed.left i.seen r.seen i.records c.records.feed _ _ i.feeds r.takes;
      so_far = λ begun serves.
          let s = i.so_far begun serves in
          answered_next g.R.Machine.tells c.args.service.now.own begun i.records c.in-Ok-Some.datagram c.args.journal c.records.journal c.in-Ok.after c.records.service c.handle.new.service
          (g.R.Machine.world c.args.journal.disk) (g.R.Machine.world c.records.journal.disk) (g.R.Machine.world c.in-Ok.after.disk) s (c.in-Ok.ensures.handled begun s.log s.serves) c.in-Ok.ensures.run;
      reads = omega (arith, i.reads, c.in-Ok-Some.ensures.later);
      writes = omega (arith, i.writes, c.in-Ok.ensures.writes);
      disks = omega (arith, i.disks, c.in-Ok.ensures.disks);
    }

pub store_all-requires-clause-ready : goal.store_all-requires-clause-ready
store_all-requires-clause-ready g c = λ told.
    let i = c.records.invariant in
    may_store c.records.service c.records.journal (g.R.Machine.world c.records.journal.disk)
    (ready_on g.R.Machine.tells c.args.service.now.own i.records c.args.journal c.records.journal c.args.service.now c.records.service (g.R.Machine.world c.args.journal.disk) (g.R.Machine.world c.records.journal.disk)
    c.requires.ready i.so_far told)

pub returns-in-Ok-None-clause-runs : goal.returns-in-Ok-None-clause-runs
returns-in-Ok-None-clause-runs g c = λ begun serves.
    let i = c.records.invariant in
    let e = rw c.in-Ok-None.field-0-is at c.in-Ok-None.ensures.none in (
      i.records,
      last_reading c.store_all.result _ c.args.feed.before c.args.feed.left i.records c.store_all.ensures.ends
          (whole_told _ _ _ c.args.feed.before c.args.feed.left i.seen i.records c.records.feed _ i.consumed i.feeds e)
          (ended_told _ _ _ c.args.feed.before c.args.feed.left i.seen i.records c.records.feed _ i.consumed i.feeds e),
      λ told plan k stands keeping.
          ends_last g.R.Machine.tells c.args.service.now.own begun i.records c.args.journal c.records.journal c.records.service (g.R.Machine.world c.args.journal.disk) (g.R.Machine.world c.records.journal.disk)
          g.R.Machine.world c.store_all.result plan k (i.so_far begun serves) c.store_all.ensures.ends (c.store_all.ensures.fails told) told stands keeping (c.store_all.ensures.run told) (c.store_all.ensures.kept told),
    )

pub returns-in-Err-clause-runs : goal.returns-in-Err-clause-runs
returns-in-Err-clause-runs g c = λ begun serves.
    let i = c.records.invariant in
    let w = g.R.Machine.world c.args.journal.disk in (
      i.records,
      stopped_reading c.in-Err.status c.args.feed.before _ _ _ c.args.feed.left i.seen i.records c.records.feed i.consumed i.feeds c.in-Err.ensures.ends c.in-Err.ensures.stops,
      λ told plan k stands keeping.
          subst (λ d. RunsOver c.args.service.now.own plan k begun i.records c.in-Err.status w (g.R.Machine.world d)) (sym c.close.ensures)
          (ends_reading g.R.Machine.tells c.args.service.now.own begun i.records c.args.journal c.records.journal c.records.service w (g.R.Machine.world c.records.journal.disk) c.in-Err.status plan k
          (i.so_far begun serves) c.in-Err.ensures.ends told stands keeping),
    )

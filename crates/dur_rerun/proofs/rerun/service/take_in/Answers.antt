use Rattle.std.proofs.Common.{refl}
use Rattle.dur_rerun.proofs.Serving.{may_store, may_received, some_received, taken_in, taken_left, stops_storing}
use Rattle.dur_rerun.proofs.rerun.service.take_in.Goals as goal

pub store_all-requires-clause-ready : goal.store_all-requires-clause-ready
store_all-requires-clause-ready g c = λ told.
    let a = c.in-Ok.ensures in
    may_received c.args.journal c.args.service.now.hub c.admit.new.hub (g.R.Machine.world c.args.journal.disk) c.args.service.now.own c.args.datagram.now a.call (may_store c.args.service.now c.args.journal (g.R.Machine.world c.args.journal.disk) (c.requires.ready told)) a.adds a.brings

pub store_all-requires-clause-settled : goal.store_all-requires-clause-settled
store_all-requires-clause-settled g c =
    let a = c.in-Ok.ensures in
    let s = c.requires.serves in
    some_received c.args.service.now.hub c.admit.new.hub c.args.journal.position c.args.service.now.own c.args.datagram.now a.call (s.0, s.1, s.2.settled) a.adds a.brings

pub returns-in-Ok-store_all-clause-taken : goal.returns-in-Ok-store_all-clause-taken
returns-in-Ok-store_all-clause-taken g c = λ begun log serves.
    taken_in g.R.Machine.tells begun log c.args.datagram.now c.args.service.now (record c.args.service.now { hub = c.store_all.new.hub }) c.args.journal c.in-Ok-store_all.journal c.admit.new.hub
    c.in-Ok.brought.reply c.in-Ok.brought.nacks.items (g.R.Machine.world c.args.journal.disk) (g.R.Machine.world c.in-Ok-store_all.journal.disk) c.in-Ok.ensures serves
    c.in-Ok-store_all.ensures.passes c.in-Ok-store_all.ensures.kept refl

pub returns-in-Ok-store_all-clause-run : goal.returns-in-Ok-store_all-clause-run
returns-in-Ok-store_all-clause-run g c = λ told plan k begun log stands serves keeping.
    taken_left begun log c.args.datagram.now c.args.service.now c.args.journal c.admit.new.hub c.in-Ok.brought.reply c.in-Ok.brought.nacks.items plan k
    (g.R.Machine.world c.args.journal.disk) (g.R.Machine.world c.in-Ok-store_all.journal.disk) c.in-Ok.ensures serves keeping
    (λ b l settled kept. c.in-Ok-store_all.ensures.run told plan k b l stands settled kept)

pub returns-in-Err-store_all-clause-run : goal.returns-in-Err-store_all-clause-run
returns-in-Err-store_all-clause-run g c = λ told plan k begun log stands serves keeping.
    taken_left begun log c.args.datagram.now c.args.service.now c.args.journal c.admit.new.hub c.in-Ok.brought.reply c.in-Ok.brought.nacks.items plan k
    (g.R.Machine.world c.args.journal.disk) (g.R.Machine.world c.in-Err-store_all.cut.1) c.in-Ok.ensures serves keeping
    (λ b l settled kept. c.in-Err-store_all.ensures.run told plan k b l stands settled kept)

pub returns-in-Err-store_all-clause-full : goal.returns-in-Err-store_all-clause-full
returns-in-Err-store_all-clause-full g c = λ told plan k begun log stands serves keeping.
    stops_storing begun log c.args.datagram.now c.args.service.now c.args.journal c.admit.new.hub c.in-Ok.brought.reply c.in-Ok.brought.nacks.items plan k c.in-Err-store_all.cut.0 c.in-Ok.ensures serves keeping
    (λ b l settled kept. c.in-Err-store_all.ensures.fails told plan k b l stands settled kept)

use Rattle.dur_outside.proofs.Runs.{joins}
use Rattle.dur_rerun.specs.Rerun.Courses.{place_at}
use Rattle.dur_rerun.specs.Rerun.Crashes.{IsHandling}
use Rattle.dur_rerun.proofs.Serving.{handled, answer_left, made_all, made_some, ready_taken, taken_over, stops_answering}
use Rattle.dur_rerun.proofs.rerun.service.handle.Goals as goal

pub answer-requires-clause-ready : goal.answer-requires-clause-ready
answer-requires-clause-ready g c = λ told.
    ready_taken g.R.Machine.tells c.args.datagram.now c.args.service.now c.take_in.new.service c.args.journal c.in-Ok.taken.0 c.in-Ok.taken.1.reply.acks c.in-Ok.taken.1.nacks.items
    (g.R.Machine.world c.args.journal.disk) (g.R.Machine.world c.in-Ok.taken.0.disk) (c.requires.ready told) c.in-Ok.ensures.taken told

pub answer-requires-clause-over : goal.answer-requires-clause-over
answer-requires-clause-over g c =
    taken_over g.R.Machine.tells c.args.datagram.now c.args.service.now c.take_in.new.service c.args.journal c.in-Ok.taken.0 c.in-Ok.taken.1.reply.acks c.in-Ok.taken.1.nacks.items
    (g.R.Machine.world c.args.journal.disk) (g.R.Machine.world c.in-Ok.taken.0.disk) c.requires.serves c.in-Ok.ensures.taken

pub returns-in-Ok-answer-clause-handled : goal.returns-in-Ok-answer-clause-handled
returns-in-Ok-answer-clause-handled g c = λ begun log serves.
    let t = c.in-Ok.ensures.taken begun log serves in
    handled g.R.Machine.tells begun log c.args.datagram.now c.args.service.now c.take_in.new.service c.answer.new.service c.args.journal c.in-Ok.taken.0 c.in-Ok-answer.after
    c.in-Ok.taken.1.reply.acks c.in-Ok.taken.1.nacks.items (g.R.Machine.world c.args.journal.disk) (g.R.Machine.world c.in-Ok.taken.0.disk) (g.R.Machine.world c.in-Ok-answer.after.disk) t
    (c.in-Ok-answer.ensures.answered begun _ t.serves)

pub returns-in-Ok-answer-clause-run : goal.returns-in-Ok-answer-clause-run
returns-in-Ok-answer-clause-run g c = λ told plan k begun log stands serves keeping.
    let w = g.R.Machine.world c.args.journal.disk in
    let u = g.R.Machine.world c.in-Ok.taken.0.disk in
    let v = g.R.Machine.world c.in-Ok-answer.after.disk in
    let t = c.in-Ok.ensures.taken begun log serves in
    let a = c.in-Ok-answer.ensures.answered begun _ t.serves in
    joins w u v (IsHandling c.args.service.now.own plan k.generation begun log c.args.service.now.replays.begun.items c.args.datagram.now w.now) (c.in-Ok.ensures.run told plan k begun log stands serves keeping)
    (answer_left g.R.Machine.tells begun log c.args.datagram.now c.args.service.now c.take_in.new.service c.args.journal c.in-Ok.taken.0 c.in-Ok.taken.1.reply.acks c.in-Ok.taken.1.nacks.items a.text plan k w u v t
    serves.good told stands keeping
    (made_all g.R.Machine.tells begun log c.args.datagram.now c.args.service.now c.take_in.new.service c.answer.new.service c.args.journal c.in-Ok.taken.0 c.in-Ok-answer.after
    c.in-Ok.taken.1.reply.acks c.in-Ok.taken.1.nacks.items w u v t a)
    (a.left told))

pub returns-clause-run : goal.returns-clause-run
returns-clause-run g c = λ told plan k begun log stands serves keeping.
    let w = g.R.Machine.world c.args.journal.disk in
    let u = g.R.Machine.world c.in-Ok.taken.0.disk in
    let v = g.R.Machine.world c.in-Err-answer.cut.1 in
    let t = c.in-Ok.ensures.taken begun log serves in
    let a = c.in-Err-answer.ensures.cut begun _ t.serves in
    joins w u v (IsHandling c.args.service.now.own plan k.generation begun log c.args.service.now.replays.begun.items c.args.datagram.now w.now) (c.in-Ok.ensures.run told plan k begun log stands serves keeping)
    (answer_left g.R.Machine.tells begun log c.args.datagram.now c.args.service.now c.take_in.new.service c.args.journal c.in-Ok.taken.0 c.in-Ok.taken.1.reply.acks c.in-Ok.taken.1.nacks.items a.text plan k w u v t
    serves.good told stands keeping
    (made_some g.R.Machine.tells begun log c.args.datagram.now c.args.service.now c.take_in.new.service c.args.journal c.in-Ok.taken.0
    c.in-Ok.taken.1.reply.acks c.in-Ok.taken.1.nacks.items a.text w u t a.begins)
    (a.left told))

pub returns-clause-full : goal.returns-clause-full
returns-clause-full g c = λ told plan k begun log stands serves keeping.
    stops_answering c.args.service.now.own plan (place_at begun log c.args.service.now.replays.begun.items) c.args.datagram.now c.in-Err-answer.cut.0 c.in-Err-answer.ensures.ends

use Rattle.std.proofs.Common.{rules, ◌≡◌, List, refl, sym, subst}
use Rattle.dur_rerun.specs.declared.rerun.nacks.Nack.{Nack}
use Rattle.dur_rerun.specs.declared.rerun.service.Service.{Service}
use Rattle.dur_rerun.specs.Rerun.Courses.{place_at}
use Rattle.dur_rerun.specs.Rerun.Services.{Answered, CutShort}
use Rattle.dur_rerun.proofs.Serving.{answered_so, cut_so}
use Rattle.dur_rerun.proofs.rerun.service.answer.Goals as goal

pub returns-in-Ok-clause-answered : goal.returns-in-Ok-clause-answered
returns-in-Ok-clause-answered g c = λ begun log serves.
    let p = c.in-Ok.ensures.replied in
    let seen : c.deref.result.now ≡ c.args.brought.now.nacks.items = search rules in
    let new : Service = record c.args.service.now { hub = c.reply-sent.new.hub; replays = c.reply-sent.new.replays } in
    let w = g.R.Machine.world c.args.journal.disk in
    let v = g.R.Machine.world c.reply-sent.new.journal.disk in
    subst (λ (l : List Nack). Answered g.R.Machine.tells begun log c.args.port c.args.brought.now.reply.acks l c.args.service.now c.args.journal new c.reply-sent.new.journal w v) seen
    (answered_so g.R.Machine.tells begun log c.args.port c.args.brought.now.reply.acks c.deref.result.now c.args.service.now new c.args.journal c.reply-sent.new.journal
    w v p.text _ p.all p.says (λ told. (p.says told).all) serves c.in-Ok.ensures.stays.same refl refl)

pub returns-in-Err-clause-cut : goal.returns-in-Err-clause-cut
returns-in-Err-clause-cut g c = λ begun log serves.
    let p = c.in-Err.ensures.replied in
    let seen : c.deref.result.now ≡ c.args.brought.now.nacks.items = search rules in
    let place = place_at begun log c.args.service.now.replays.begun.items in
    let w = g.R.Machine.world c.args.journal.disk in
    let v = g.R.Machine.world c.reply-sent.new.journal.disk in
    subst (λ d. CutShort g.R.Machine.tells c.args.service.now.own c.args.port c.args.brought.now.reply.acks c.args.brought.now.nacks.items place w (g.R.Machine.world d)) (sym c.close.ensures)
    (subst (λ (l : List Nack). CutShort g.R.Machine.tells c.args.service.now.own c.args.port c.args.brought.now.reply.acks l place w v) seen
    (cut_so g.R.Machine.tells begun log c.args.port c.args.brought.now.reply.acks c.deref.result.now c.args.service.now c.args.journal c.reply-sent.new.journal w v p.text _ p.begun p.says serves))

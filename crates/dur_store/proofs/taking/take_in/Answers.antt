use Rattle.std.proofs.Common.{ℕ, List, ap}
use Rattle.dur_view.specs.declared.data.Held.{Held}
use Rattle.dur_store.specs.declared.writer.Writer.{Writer}
use Rattle.dur_store.proofs.Takings.{took-by}
use Rattle.dur_store.proofs.taking.take_in.Goals as goal

pub returns-clause-ok : goal.returns-clause-ok
returns-clause-ok c = λ tells.
    let old = c.args.writer.now in
    let then = c.settle.new.writer in
    let roomy : Writer = record { guid = old.guid; topic = old.topic; next = old.next; held = c.reserve-2.new.self } in
    let new : Writer = record { guid = then.guid; topic = then.topic; next = c.next-writer.result; held = then.held } in
    took-by c.args.place c.args.moment c.args.number c.args.sample old roomy c.close.new.writer then new c.args.topic.now c.reserve.new.self c.close.new.topic c.settle.new.topic c.args.effect.now tells
    (ap (λ (l : List Held). record { guid = old.guid; topic = old.topic; next = old.next; held = l }) c.reserve-2.ensures.items)
    c.reserve.ensures.rest c.close.ensures.line c.close.ensures.left c.close.ensures.stands c.settle.ensures.line c.settle.ensures.stands
    (ap (λ (n : ℕ). record { guid = then.guid; topic = then.topic; next = n; held = then.held.items }) c.next-writer.ensures)
    c.settle.ensures.last

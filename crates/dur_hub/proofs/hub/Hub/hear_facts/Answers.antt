use Rattle.std.proofs.Common.{refl, arith}
use Rattle.std.proofs.lemmas.List.{with_items_is}
use Rattle.dur_hub.proofs.Receives.{answers_facts}
use Rattle.dur_hub.proofs.hub.Hub.hear_facts.Goals as goal

pub returns : goal.returns
returns c =
    answers_facts c.args.self.now _ _ _ _ _ c.deref_mut.ensures.value
    (with_items_is c.args.self.now.lines c.answer_facts-reply.new.lines (omega arith))
    c.answer_facts-reply.ensures
    record { plan = refl; index = refl; places = refl; working = refl; stopped = refl } refl refl refl (omega arith) (omega arith)

use Rattle.std.proofs.Common.{refl, arith, ap, sym, ◌∙◌}
use Rattle.std.specs.List.{list_any}
use Rattle.dur_hub.specs.Looks.{is_late}
use Rattle.std.proofs.lemmas.List.{with_items_is}
use Rattle.dur_hub.proofs.Receives.{begins, begins_quietly}
use Rattle.dur_hub.proofs.hub.Hub.begin.Goals as goal

pub returns-then-not-is_after : goal.returns-then-not-is_after
returns-then-not-is_after c = begins_quietly c.args.self.now _ _ c.later-used.ensures c.if-self.true (sym c.is_after.ensures ∙ c.if-not-is_after.true)

pub returns : goal.returns
returns c =
    begins c.args.self.now _ _ _ _ _ _ c.later-used.ensures c.deref_mut.ensures.value
    (with_items_is c.args.self.now.lines c.lease_step-whole.new.lines (omega arith))
    c.lease_step-whole.ensures
    record { plan = refl; index = refl; places = refl; working = refl; stopped = refl } refl c.either-self.ensures refl refl refl
    (λ now. c.first_end-self.ensures now ∙ ap (list_any (λ line. is_late line now)) c.deref.ensures.value)

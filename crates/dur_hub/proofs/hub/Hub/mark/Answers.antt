use Rattle.std.proofs.Common.{refl, arith}
use Rattle.std.proofs.lemmas.List.{with_items_is}
use Rattle.dur_hub.proofs.Calls.{marks}
use Rattle.dur_hub.proofs.hub.Hub.mark.Goals as goal

pub returns : goal.returns
returns c =
    marks _ _ _ _ _ _ c.deref_mut.ensures.value
    (with_items_is c.args.self.now.lines c.pass_all.new.lines (omega arith)) c.pass_all.ensures
    (λ d is. omega (arith, is)) refl

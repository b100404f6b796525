use Rattle.std.proofs.Common.{◌++◌, ◌∷◌, [], ap, ◌∙◌}
use Rattle.turn_uses.specs.declared.desk.Event.{Event}
use Rattle.turn_uses.proofs.Desks.{taken_is}
use Rattle.turn_uses.proofs.desk.take_and_mark.Goals as goal

pub with-requires-clause-asks : goal.with-requires-clause-asks
with-requires-clause-asks g c log found =
    let did = c.with-upto.ensures.did in
    let was = c.args.pass.now.mine in
    taken_is _ c.with-upto.result log c.with-upto.new.pass.mine was (found.lones (did.number ∙ c.requires.lone)) (did.mine ∙ ap (λ (e : Event). was ++ e ∷ []) did.told)

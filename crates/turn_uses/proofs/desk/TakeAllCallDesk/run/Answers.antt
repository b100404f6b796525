use Rattle.std.proofs.Common.{refl, sym, ◌∙◌}
use Rattle.turn_uses.specs.declared.desk.Event.{Event}
use Rattle.turn_uses.specs.declared.desk.Event.TheVariants.{Took}
use Rattle.turn_uses.proofs.Desks.{put_snoc, taken_snoc, legal_snoc}
use Rattle.turn_uses.proofs.desk.TakeAllCallDesk.run.Goals as goal

pub returns : goal.returns
returns c start log stood asks =
    let e : Event = Took c.args.value.now.put in
    (e, refl, (stood.0 ∙ sym (put_snoc start.put log e), sym (taken_snoc start.taken log e), legal_snoc start.put start.taken log e stood.2 (stood.0, tt)))

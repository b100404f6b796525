use Rattle.std.proofs.Common.{ℕ, ◌+◌, ◌%◌, ◌^◌, refl, ap, sym, ◌∙◌}
use Rattle.turn_uses.specs.declared.desk.Event.{Event}
use Rattle.turn_uses.specs.declared.desk.Event.TheVariants.{Put}
use Rattle.turn_uses.proofs.Desks.{put_snoc, taken_snoc, legal_snoc}
use Rattle.turn_uses.proofs.desk.PutOneCallDesk.run.Goals as goal

pub returns : goal.returns
returns c start log stood asks =
    let e : Event = Put in
    (e, refl, (ap (λ (n : ℕ). (n + 1) % 2 ^ 64) stood.0 ∙ sym (put_snoc start.put log e), stood.1 ∙ sym (taken_snoc start.taken log e), legal_snoc start.put start.taken log e stood.2 tt))

use Rattle.std.proofs.Common.{◌≡◌, subst, cond, Some}
use Rattle.dur_view.specs.Identities.{Guid}
use Rattle.dur_view.specs.Words.{is_same}
use Rattle.dur_store.specs.Places.{found}
use Rattle.dur_store.proofs.Places.{noted}
use Rattle.dur_store.proofs.index.note_place.Goals as goal

pub returns-in-Ok : goal.returns-in-Ok
returns-in-Ok c =
    subst
    (λ k. (g : Guid) → found c.insert.new.self g ≡ cond (is_same g k) (Some c.args.place) (found c.args.index.now g))
    c.writer.view_is
    (noted c.args.index.now c.insert.new.self c.writer.inside.0 c.args.place c.in-Ok.ensures.updates)

use Rattle.std.proofs.Common.{refl, subst}
use Rattle.dur_hub.specs.Places.{guids, found, IsIndex}
use Rattle.dur_view.specs.Full.{full}
use Rattle.dur_view.specs.History.{Start}
use Rattle.dur_hub.proofs.Declared.{full_opens}
use Rattle.dur_hub.proofs.Opens.{stands_opened}
use Rattle.dur_hub.proofs.hub.Hub.new.Goals as goal

pub returns : goal.returns
returns c =
    let v = full c.args.plan c.args.view in
    let keeps = c.in_ok-store.ensures in
    stands_opened c.args.plan c.args.view c.args.working _ c.requires refl (c.new.ensures v keeps)
    (λ stand. c.in_ok-lines.ensures v keeps stand) (subst (λ l. IsIndex (found c.in_ok-index.index) (guids l)) c.deref.ensures.value c.in_ok-index.ensures) (c.in_ok-places.ensures (Start v) keeps)
    c.in_ok-leaving.ensures refl refl c.new-2.ensures.items refl refl refl refl

pub places-requires : goal.places-requires
places-requires c =
    (Start (full c.args.plan c.args.view), c.in_ok-store.ensures, (full_opens c.args.plan c.args.view c.requires).topics.count)

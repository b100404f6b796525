use Rattle.std.proofs.Common.{Some, ◌<◌, length, sym, ap, ◌∙◌, arith}
use Rattle.std.specs.Prelude.{slice_set}
use Rattle.dur_instances.specs.declared.links.Place.{Place}
use Rattle.dur_instances.specs.Places.{linked}
use Rattle.dur_instances.proofs.Pushes.{set-is}
use Rattle.dur_instances.proofs.order.link.Goals as goal

pub returns-in-Some-clause-items : goal.returns-in-Some-clause-items
returns-in-Some-clause-items c =
    let lt : c.args.last < length c.args.places.now.items = (let inside = c.requires c.in-Some.first c.in-Some.is in let len = c.args.places.now.ok.0 in omega arith) in
    ap (λ (p : Place). slice_set c.args.places.now.items c.args.last p) (c.set_next.ensures ∙ ap (λ (z : Place). record z { next = Some c.args.place }) c.index_mut.ensures.value)
    ∙ set-is c.args.places.now.items c.args.last c.args.place _ lt
    ∙ sym (ap (λ o. linked o c.args.last c.args.place c.args.places.now.items) c.in-Some.is)

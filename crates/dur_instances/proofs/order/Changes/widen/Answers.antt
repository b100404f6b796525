use Rattle.std.proofs.Common.{List, sym, subst}
use Rattle.dur_instances.specs.declared.links.Place.{Place}
use Rattle.dur_instances.specs.Places.{IsLinked}
use Rattle.dur_instances.proofs.PlaceLists.{linked-same}
use Rattle.dur_instances.proofs.order.Changes.widen.Goals as goal

pub invariant_of-self-2 : goal.invariant_of-self-2
invariant_of-self-2 c =
    linked-same c.self.inside.ends c.reserve-2.new.self c.reserve.new.self.items (subst (λ (l : List Place). IsLinked c.self.inside.ends l) (sym c.reserve.ensures.items) c.self.invariant)
    (λ k. c.reserve-2.ensures.entries.2 k)

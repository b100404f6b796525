use Rattle.std.proofs.Common.{List, not, filter, ap, ◌∙◌}
use Rattle.dur_instances.specs.declared.changes.Change.{Change}
use Rattle.dur_instances.specs.Layout.{is_gone_in}
use Rattle.dur_instances.specs.Places.{ChangesNow, kept_in}
use Rattle.dur_instances.proofs.PlaceLists.{kept-thinned, linked-thinned}
use Rattle.dur_instances.proofs.order.Changes.sweep.Goals as goal

pub invariant_of-self : goal.invariant_of-self
invariant_of-self c = linked-thinned c.args.cells.now c.args.longest c.args.now c.self.inside.ends c.self.inside.places.items c.sweep.new.places.items c.self.invariant c.sweep.ensures.items

pub returns-clause-items : goal.returns-clause-items
returns-clause-items c =
    ap kept_in c.sweep.ensures.items ∙ kept-thinned c.args.cells.now c.args.longest c.args.now c.self.inside.places.items
    ∙ ap (λ (l : List Change). filter (λ x. not (is_gone_in c.args.cells.now c.args.longest c.args.now x)) l) (ap (λ (v : ChangesNow). v.items) c.self.view_is)

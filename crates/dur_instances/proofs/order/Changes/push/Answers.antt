use Rattle.std.proofs.Common.{[], ◌∷◌, ◌++◌, ◌∙◌}
use Rattle.dur_instances.proofs.PlaceLists.{none-past, none-sinks}
use Rattle.dur_instances.proofs.order.Changes.push.Goals as goal

pub add-requires-clause-sinks : goal.add-requires-clause-sinks
add-requires-clause-sinks c = none-sinks c.args.change.sample.key 0 (c.args.self.now.items ++ c.args.change ∷ [])

pub returns-clause-items : goal.returns-clause-items
returns-clause-items c = c.add.ensures.items ∙ none-past c.args.change.sample.key 0 (c.args.self.now.items ++ c.args.change ∷ [])

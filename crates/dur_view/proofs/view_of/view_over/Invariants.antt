use Rattle.std.proofs.Common.{◌≡◌}
use Rattle.dur_view.specs.History.{Start, ◌+>◌}
use Rattle.dur_view.specs.View.{instances_upto, kept_upto}
use Rattle.dur_view.proofs.view_of.view_over.Given as goal

abbrev pub invariant-loop-topic : goal.invariant-loop-topic
invariant-loop-topic l = (l.instances ≡ instances_upto l.topic (Start l.start +> l.entries) l.moment) × (l.kept ≡ kept_upto l.topic (Start l.start +> l.entries) l.moment)

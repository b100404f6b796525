use Rattle.std.proofs.Common.{◌≡◌, ◌++◌, take, not}
use Rattle.std.specs.Prelude.{filter, is_some}
use Rattle.dur_qos.specs.Plan.{place_of}
use Rattle.dur_view.proofs.full.all_topics.Given as goal

abbrev pub invariant-loop-topic : goal.invariant-loop-topic
invariant-loop-topic l = l.all ≡ l.topics ++ filter (λ t. not (is_some (place_of t.name l.topics))) (take l.topic-index l.plan.topics)

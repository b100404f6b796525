use Rattle.std.proofs.Common.{◌≡◌, ℕ, ◌<◌}
use Rattle.std.specs.List.{slice_index_or}
use Rattle.dur_qos.specs.declared.plan.Topic.{Topic}
use Rattle.dur_journal.proofs.agreement.has_topic.Given as goal

-- none of those before is the topic
abbrev pub invariant-loop-other : goal.invariant-loop-other
invariant-loop-other l = (k : ℕ) (d : Topic) → k < l.other-index → slice_index_or l.plan.topics k d ≡ l.topic → ⊥

use Rattle.std.specs.List.{AllWithin}
use Rattle.dur_journal.specs.Histories.{Has}
use Rattle.dur_rerun.proofs.rerun.fitting.has_topics.Given as goal

-- the plan has those before
abbrev pub invariant-loop-topic : goal.invariant-loop-topic
invariant-loop-topic l = AllWithin (Has l.plan) l.view.topics 0 l.topic-index

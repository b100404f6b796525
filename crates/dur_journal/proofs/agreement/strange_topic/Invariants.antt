use Rattle.std.specs.List.{AllWithin}
use Rattle.dur_journal.specs.Histories.{Has}
use Rattle.dur_journal.proofs.agreement.strange_topic.Given as goal

-- the plan has those before
abbrev pub invariant-loop-place : goal.invariant-loop-place
invariant-loop-place l = AllWithin (Has l.plan) l.view.topics 0 l.place

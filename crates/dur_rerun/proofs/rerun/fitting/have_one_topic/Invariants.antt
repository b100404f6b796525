use Rattle.std.specs.List.{AllWithin}
use Rattle.dur_hub.specs.Openings.{HasOneTopic}
use Rattle.dur_rerun.proofs.rerun.fitting.have_one_topic.Given as goal

-- those before have one topic
abbrev pub invariant-loop-writer : goal.invariant-loop-writer
invariant-loop-writer l = AllWithin (HasOneTopic l.plan l.view) l.plan.writers 0 l.writer-index

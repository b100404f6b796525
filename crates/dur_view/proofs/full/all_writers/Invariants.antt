use Rattle.std.proofs.Common.{◌≡◌, ◌++◌, map, take, not}
use Rattle.std.specs.Prelude.{filter}
use Rattle.dur_view.specs.Words.{stands}
use Rattle.dur_view.specs.Full.{new_writer}
use Rattle.dur_view.proofs.full.all_writers.Given as goal

abbrev pub invariant-loop-writer : goal.invariant-loop-writer
invariant-loop-writer l = l.all ≡ l.view.writers ++ map (new_writer l.plan l.topics) (filter (λ w. not (stands l.view w.guid)) (take l.writer-index l.plan.writers))

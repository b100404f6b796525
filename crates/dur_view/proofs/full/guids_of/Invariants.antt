use Rattle.std.proofs.Common.{◌≡◌, ℕ, List, take}
use Rattle.std.specs.Prelude.{is_some}
use Rattle.dur_qos.specs.Index.{holds}
use Rattle.dur_view.specs.Words.{writer_line}
use Rattle.dur_view.proofs.full.guids_of.Given as goal

abbrev pub invariant-loop-writer : goal.invariant-loop-writer
invariant-loop-writer l = (q : List ℕ) → holds l.guids q ≡ is_some (writer_line (take l.writer-index l.writers) q)

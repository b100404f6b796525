use Rattle.std.proofs.Common.{◌≡◌, ℕ, ◌<◌}
use Rattle.std.specs.List.{slice_index_or}
use Rattle.dur_qos.specs.declared.plan.WriterLine.{WriterLine}
use Rattle.dur_journal.specs.Histories.{name_at}
use Rattle.dur_journal.proofs.agreement.is_elsewhere.Given as goal

-- none of the lines before declares the writer under another topic
abbrev pub invariant-loop-line : goal.invariant-loop-line
invariant-loop-line l = (k : ℕ) (d : WriterLine) → k < l.line-index → (slice_index_or l.plan.writers k d).guid ≡ l.writer.guid
    → name_at l.plan.topics (slice_index_or l.plan.writers k d).topic ≡ name_at l.view.topics l.writer.topic

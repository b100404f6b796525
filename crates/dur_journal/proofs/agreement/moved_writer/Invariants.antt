use Rattle.std.specs.List.{AllWithin}
use Rattle.dur_journal.specs.Histories.{IsElsewhere}
use Rattle.dur_journal.proofs.agreement.moved_writer.Given as goal

-- none of those before is declared under another topic
abbrev pub invariant-loop-place : goal.invariant-loop-place
invariant-loop-place l = AllWithin (λ w. IsElsewhere l.plan l.view w → ⊥) l.view.writers 0 l.place

-- What storing a batch answers.
use Rattle.std.specs.Prelude.{◌≡◌, ◌≢◌, ℕ, ◌<◌, ◌≤◌, ◌^◌, nat_lt, if◌then◌else◌, List, length, Result, Ok, Err}
use Rattle.dur_base.specs.declared.entry.Entry.{Entry}
use Rattle.dur_journal.specs.Kept.{Kept, extended, renewed}
use Rattle.dur_view.specs.declared.data.View.{View}
use Rattle.dur_record.specs.WholeTexts.{view_text}
use Rattle.dur_journal.specs.declared.state.Journal.{Journal}
use Rattle.dur_journal.specs.declared.storing.CommitFault.{CommitFault}
use Rattle.dur_journal.specs.declared.storing.CompactFault.{CompactFault}
use Rattle.dur_journal.specs.declared.storing.CompactFault.TheVariants as why
use Rattle.dur_journal.specs.Journals.{last_generation}

abbrev pub committed_disk : {D : Type 0} → Result (Journal D × ℕ) (CommitFault × D) → D
committed_disk (Ok r) = r.0.disk
committed_disk (Err e) = e.1

abbrev pub compacted_disk : {D : Type 0} → Result (Journal D × ℕ) (CompactFault × D) → D
compacted_disk (Ok r) = r.0.disk
compacted_disk (Err e) = e.1

-- why a batch was not stored by a view
abbrev pub CompactAnswers : ℕ → View → CompactFault → Type 0
CompactAnswers generation view why.Worn = generation ≡ last_generation
CompactAnswers generation view (why.Full size) = (generation ≢ last_generation) × (size ≡ length (view_text view)) × (2 ^ 30 < size)
CompactAnswers generation view e = Unit {0}

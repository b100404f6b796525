-- What of a history is stored entry by entry, and from which number on a writer is asked to send again.
use Rattle.std.specs.Prelude.{ℕ, Bool, if◌then◌else◌, List, take}
use Rattle.dur_base.specs.declared.entry.Entry.{Entry}
use Rattle.dur_view.specs.declared.data.View.{View}
use Rattle.dur_view.specs.Identities.{Guid}
use Rattle.dur_view.specs.Words.{topic_of}
use Rattle.dur_view.specs.History.{History, Start, ◌+>◌, start, next}
use Rattle.dur_view.specs.Extend.{entries_of}
use Rattle.dur_view.specs.Persistent.{is_persistent, passes_at, persistent}

-- The entries that are stored: those of the persistent topics, in their order.
abbrev pub stored : History → List Entry
stored h = entries_of (persistent h)

-- the persistent part of the history, as far as its first d stored entries
abbrev pub durable_part : History → ℕ → History
durable_part h d = Start (start (persistent h)) +> take d (stored h)

-- whether what the writer writes is stored
abbrev pub is_stored : View → Guid → Bool
is_stored v w = passes_at is_persistent v.topics (topic_of v w)

-- The base of an acknowledgement (DDSI-RTPS 8.3.8.1), where the first d stored entries are durable: of a writer of a persistent
-- topic the number after its last durable one, and of any other the number after its last handled one.
abbrev pub ack_base : History → ℕ → Guid → ℕ
ack_base h d w = if is_stored (start h) w then next (durable_part h d) w else next h w

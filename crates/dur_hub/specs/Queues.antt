-- What waits to be handed out, and what waits to be marked.
use Rattle.std.specs.Prelude.{◌≡◌, ℕ, ◌+◌, ◌^◌, ◌%◌, ◌≤◌, ◌<◌, Some, None, List, [], ◌∷◌, ◌++◌, map, length, take, drop, vec_len, vec_capacity}
use Rattle.std.specs.VecDeque.{deque_len, deque_capacity}
use Rattle.dur_base.specs.declared.entry.Entry.{Entry}
use Rattle.dur_base.specs.declared.entry.Entry.TheVariants.{Took, Skip, Lost}
use Rattle.dur_view.specs.declared.change.Batch.{Batch}
use Rattle.dur_view.specs.History.{History}
use Rattle.dur_view.specs.Extend.{entries_of}
use Rattle.dur_store.specs.Keeps.{Keeps}
use Rattle.dur_hub.specs.declared.queue.Passed.{Passed}
use Rattle.dur_hub.specs.declared.queue.Queue.{Queue}
use Rattle.dur_hub.specs.declared.ledger.Ledger.{Ledger}
use Rattle.dur_view.specs.Stored.{stored}

-- the writer of an entry, and its number after it
abbrev pub passed_by : Entry → Passed
passed_by (Took m w n s) = record { writer = w; next = Some (n + 1) }
passed_by (Skip m w from to) = record { writer = w; next = Some (to + 1) }
passed_by (Lost m w) = record { writer = w; next = None }

-- the entries of the lists, one list after another
abbrev pub joined : List (List Entry) → List Entry
joined [] = []
joined (l ∷ ls) = l ++ joined ls

-- each list has 4096 entries
abbrev pub AllFull : List (List Entry) → Type 0
AllFull [] = Unit {0}
AllFull (l ∷ ls) = (length l ≡ 4096) × AllFull ls

-- The queue of these entries, of which the first t were handed out and the first d are durable: what is left to be handed out
-- stands in lists of 4096 and a last one, and what is left to be marked as pairs.
pub record Lined (q : Queue) (t d : ℕ) (es : List Entry) : Type 0 where
  pub pending : joined q.full.items ++ q.last.items ≡ drop t es
  pub full : AllFull q.full.items
  pub unmarked : q.unmarked.items ≡ map passed_by (drop d es)
  pub taken : q.taken ≡ t % 2 ^ 64
  pub durable : q.durable ≡ d % 2 ^ 64
  pub marked : d ≤ t
  pub handed : t ≤ length es

-- the same, where the last list is not full
pub record Queued (q : Queue) (t d : ℕ) (es : List Entry) : Type 0 where
  pub lined : Lined q t d es
  pub last : length q.last.items < 4096

-- what is left to be marked, and how many were handed out and are durable, are the same
abbrev pub SameMarks : Queue → Queue → Type 0
SameMarks old new =
    (new.unmarked.items ≡ old.unmarked.items) × (new.taken ≡ old.taken)
    × (new.durable ≡ old.durable)

-- the queue without its first list, which holds the entries that are next, at most 4096 of them
pub record FirstTaken (old new : Queue) (list : List Entry) (t : ℕ) (es : List Entry) : Type 0 where
  pub first : list ≡ take 4096 (drop t es)
  pub pending : joined new.full.items ++ new.last.items ≡ drop (t + length list) es
  pub full : AllFull new.full.items
  pub last : length new.last.items < 4096

-- all that was left to be handed out was handed out
pub record TakenAll (old new : Queue) (b : Batch) (t d : ℕ) (es : List Entry) : Type 0 where
  pub from : b.from ≡ t % 2 ^ 64
  pub entries : b.entries ≡ drop t es
  pub after : Queued new (t + length b.entries) d es

-- there is room for one entry more
pub record HasRoom (q : Queue) : Type 0 where
  pub last : vec_len q.last < vec_capacity q.last
  pub full : deque_len q.full < deque_capacity q.full
  pub unmarked : deque_len q.unmarked < deque_capacity q.unmarked

-- The ledger stands for this history, of whose persistent entries the first t were handed out and the first d are durable.
pub record LedgerAt (l : Ledger) (h : History) (t d : ℕ) : Type 0 where
  pub keeps : Keeps l.store h
  pub queued : Queued l.queue t d (stored h)
  pub entries : l.entries ≡ length (entries_of h) % 2 ^ 64

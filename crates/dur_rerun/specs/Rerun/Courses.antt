-- What the records of a capture call for, one after the other.
use Rattle.std.specs.Prelude.{◌≡◌, ◌⊎◌, ℕ, List, [], ◌∷◌, ◌++◌}
use Rattle.dur_capture.specs.declared.record.Record.{Record}
use Rattle.dur_hub.specs.declared.event.Event.{Event}
use Rattle.dur_hub.specs.declared.reply.Ack.{Ack}
use Rattle.dur_hub.specs.Handed.{acks_by}
use Rattle.dur_hub.specs.Legal.{LegalAt, after as run_by}
use Rattle.dur_hub.specs.Runs.{Run}
use Rattle.dur_rerun.specs.Admission.{Brings}
use Rattle.dur_rerun.specs.Rerun.Replies.{Place, Replies, BeginsReplies, nacks}
pub use Rattle.dur_rerun.specs.Rerun.Steps.{place_at}
use Rattle.dur_journal.specs.Kept.{Kept}
use Rattle.dur_rerun.specs.Rerun.Stores.{stored_all, kept_all}

-- where a record is answered: the hub was called for it, and then each persistent entry was stored
abbrev pub answered_at : Place → Event → Place
answered_at before call = record { run = stored_all (run_by before.run call); replays = before.replays }

-- The call for a record, which is legal there.
pub record Receives (own : List ℕ) (before : Place) (r : Record) : Type 0 where
  pub call : Event
  pub brings : Brings own r call
  pub legal : LegalAt before.run call

-- What one record calls for, and where that leads: what it brings is admitted and stored, and then its acknowledgements go out,
-- and what its ACKNACKs call for.
pub record RecordCalls (own : List ℕ) (before : Place) (r : Record) (acks : List Ack) (text : List ℕ) (after : Place) : Type 0 where
  pub received : Receives own before r
  pub acks_are : acks ≡ acks_by received.call
  pub replies : Replies own r.port acks (nacks received.brings.heard.facts) (answered_at before received.call) text after

-- What records call for, one after the other: the acknowledgements, the text, and where they lead.
abbrev pub Course : List ℕ → Place → List Record → List Ack → List ℕ → Place → Type 0
Course own before [] acks text after = (acks ≡ []) × (text ≡ []) × (after ≡ before)
Course own before (r ∷ rs) acks text after =
    (a : List Ack) × (b : List Ack) × (x : List ℕ) × (y : List ℕ) × (mid : Place)
    × RecordCalls own before r a x mid × Course own mid rs b y after × (acks ≡ a ++ b) × (text ≡ x ++ y)

-- What is kept once a record is answered: what it brought is stored by the rule of compaction.
abbrev pub kept_at : (own : List ℕ) (before : Place) (r : Record) → Receives own before r → Kept → Kept
kept_at own before r received k = kept_all k (run_by before.run received.call)

-- What is kept once records are answered, one after the other.
abbrev pub kept_through : (own : List ℕ) (before : Place) (rs : List Record) (acks : List Ack) (text : List ℕ) (after : Place) → Course own before rs acks text after → Kept → Kept
kept_through own before [] acks text after course k = k
kept_through own before (r ∷ rs) acks text after course k =
    kept_through own course.4 rs course.1 course.3 after course.6 (kept_at own before r course.5.received k)

-- What was made so far of the text for a record that was received: its acknowledgements, and a text of which the first messages
-- are known.
abbrev pub IsMade : (own : List ℕ) (before : Place) (r : Record) → Receives own before r → List Ack → List ℕ → Type 0
IsMade own before r received acks made =
    ((acks ≡ []) × (made ≡ []))
    ⊎ ((acks ≡ acks_by received.call)
    × (BeginsReplies own r.port acks (nacks received.brings.heard.facts) (answered_at before received.call) made
    ⊎ ((after : Place) × Replies own r.port acks (nacks received.brings.heard.facts) (answered_at before received.call) made after)))

-- A record was received, and this much of its answer was made.
pub record IsAnswering (own : List ℕ) (before : Place) (r : Record) (run : Run) (acks : List Ack) (made : List ℕ) : Type 0 where
  pub received : Receives own before r
  pub run_is : run ≡ run_by before.run received.call
  pub answer : IsMade own before r received acks made

-- The next record was not received yet, or this much of its answer was made.
abbrev pub IsNext : List ℕ → Place → List Record → Run → List Ack → List ℕ → Type 0
IsNext own before [] run acks made = (run ≡ before.run) × (acks ≡ []) × (made ≡ [])
IsNext own before (r ∷ rest) run acks made =
    ((run ≡ before.run) × (acks ≡ []) × (made ≡ [])) ⊎ IsAnswering own before r run acks made

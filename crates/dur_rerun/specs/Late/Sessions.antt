-- The other end of a link: a session that answers each datagram at once.
use Rattle.std.specs.Prelude.{◌≡◌, ℕ, ◌+◌, ◌*◌, ◌<◌, false, List, [], ◌∷◌, ◌++◌, length}
use Rattle.std.specs.declared.option.Option.{Option}
use Rattle.std.specs.Prelude.{Some, None}
use Rattle.dur_view.specs.declared.change.Change.{Change}
use Rattle.rtps_message.specs.declared.heard.Heard.{Heard}
use Rattle.rtps_message.specs.Messages.{Hears}
use Rattle.rel_writer.specs.declared.ids.Ids.{Ids}
use Rattle.rel_writer.specs.Replays.{sent}
use Rattle.rel_writer.specs.Sets.{any_marker}
use Rattle.rel_writer.specs.Sessions.{Sending, opened}
use Rattle.rel_writer.specs.LateReaders.{Late, fresh}
use Rattle.rel_writer.specs.Turns.{Fits, RepliesAll}
use Rattle.dur_rerun.specs.Late.Turns.{Turn, TakesAll}

-- `receive` answers the first datagram that waits
abbrev pub Gives : List (List ℕ) → Option (List ℕ) → List (List ℕ) → Type 0
Gives [] answer rest = (answer ≡ None) × (rest ≡ [])
Gives (bytes ∷ queue) answer rest = (answer ≡ Some bytes) × (rest ≡ queue)

-- an ACKNACK reaches the session, which replies at once
pub record Replies (s : Sending) (nack : List ℕ) (replies : List (List ℕ)) (after : Sending) : Type 0 where
  pub heard : Heard
  pub tells : Hears s.ids.own nack heard
  pub all : RepliesAll s heard.facts replies after

-- ACKNACKs reach it, one after the other
abbrev pub RepliesEach : Sending → List (List ℕ) → List (List ℕ) → Sending → Type 0
RepliesEach s [] replies after = (replies ≡ []) × (after ≡ s)
RepliesEach s (nack ∷ nacks) replies after =
    (now : List (List ℕ)) × (later : List (List ℕ)) × (between : Sending)
    × Replies s nack now between × RepliesEach between nacks later after × (replies ≡ now ++ later)

-- these turns are over a session with that queue: what it replies goes to the queue's end
abbrev pub AreOver : Sending → List (List ℕ) → List Turn → Type 0
AreOver s queue [] = Unit {0}
AreOver s queue (t ∷ ts) =
    (rest : List (List ℕ)) × (replies : List (List ℕ)) × (after : Sending)
    × Gives queue t.answer rest × RepliesEach s t.nacks replies after × AreOver after (rest ++ replies) ts

-- The late reader of a new session of n changes takes fewer than 3 + 2 (n + 1) turns where it is not done after them.
abbrev pub EndsBefore : List ℕ → Ids → List Change → Type 0
EndsBefore service ids changes =
    (ts : List Turn) (after : Late) → Fits service ids changes → AreOver (opened ids (sent changes)) [] ts
    → TakesAll (fresh ids.reader service ids.writer) ts after → any_marker after.handled ≡ false
    → length ts < 3 + 2 * (length changes + 1)

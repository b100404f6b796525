-- What a list of calls handed out and acknowledged.
use Rattle.std.specs.Prelude.{◌≡◌, ℕ, ◌≤◌, true, Some, None, Option, Ok, Err, List, [], ◌∷◌, ◌++◌}
use Rattle.std.specs.declared.result.Result.{Result}
use Rattle.dur_base.specs.declared.entry.Entry.{Entry}
use Rattle.dur_base.specs.declared.memory.OutOfMemory.{OutOfMemory}
use Rattle.dur_view.specs.declared.change.Batch.{Batch}
use Rattle.dur_view.specs.declared.data.View.{View}
use Rattle.dur_view.specs.History.{History, start, next}
use Rattle.dur_hub.specs.declared.reply.Ack.{Ack}
use Rattle.dur_hub.specs.declared.event.Step.{Step}
use Rattle.dur_hub.specs.declared.event.Event.{Event}
use Rattle.dur_hub.specs.declared.event.Event.TheVariants as call
use Rattle.dur_view.specs.Stored.{durable_part, is_stored}

abbrev pub view_handed : Result (Batch × View) OutOfMemory → List Entry
view_handed (Ok given) = given.0.entries
view_handed (Err e) = []

-- the entries that a call handed out, and those that a list of calls did
abbrev pub handed_by : Event → List Entry
handed_by (call.Take b) = b.entries
handed_by (call.TakeView reply) = view_handed reply
handed_by e = []

abbrev pub handed : List Event → List Entry
handed [] = []
handed (e ∷ es) = handed_by e ++ handed es

abbrev pub ack_of : Option Ack → List Ack
ack_of None = []
ack_of (Some a) = a ∷ []

abbrev pub acks_of : List Step → List Ack
acks_of [] = []
acks_of (s ∷ ss) = ack_of s.ack ++ acks_of ss

-- the acknowledgements that a call answered, and those that a list of calls did
abbrev pub acks_by : Event → List Ack
acks_by (call.Receive m lost steps cut stopped) = acks_of (steps ++ cut)
acks_by e = []

abbrev pub acks_in : List Event → List Ack
acks_in [] = []
acks_in (e ∷ es) = acks_by e ++ acks_in es

-- Each persistent number that an acknowledgement lies above is below its writer's next number in the durable part: for a base b
-- covers all numbers below it.
abbrev pub Covered : History → ℕ → List Ack → Type 0
Covered h d [] = Unit {0}
Covered h d (a ∷ acks) =
    (is_stored (start h) a.writer ≡ true → a.set.base ≤ next (durable_part h d) a.writer)
    × Covered h d acks

-- What the records of a capture bring to a hub: each is one `receive` of the facts of its datagram, at its moment.
use Rattle.std.specs.Prelude.{◌≡◌, ℕ, false, List, [], ◌∷◌, ◌++◌, length}
use Rattle.dur_base.specs.declared.fact.Fact.{Fact}
use Rattle.dur_capture.specs.declared.record.Record.{Record}
use Rattle.rtps_message.specs.declared.heard.Heard.{Heard}
use Rattle.rtps_message.specs.Messages.{Hears}
use Rattle.dur_hub.specs.declared.event.Event.{Event}
use Rattle.dur_hub.specs.declared.event.Event.TheVariants as event
use Rattle.dur_hub.specs.declared.hub.Hub.{Hub}
use Rattle.dur_hub.specs.declared.reply.Received.{Received}
use Rattle.dur_hub.specs.Handed.{acks_by}
use Rattle.dur_hub.specs.Hubs.{Adds}
use Rattle.dur_hub.specs.Runs.{Run}
use Rattle.dur_hub.specs.Legal.{facts_of, Legal, run_after}
use Rattle.dur_hub.specs.Readings.{refusals_by}
use Rattle.dur_rerun.specs.declared.rerun.nacks.Nack.{Nack}
use Rattle.dur_rerun.specs.Rerun.Replies.{nacks}

-- a `receive` of these facts at this moment, for which memory was not wanting
abbrev pub IsWhole : ℕ → List Fact → Event → Type 0
IsWhole m facts (event.Receive at lost steps cut stopped) = (at ≡ m) × (facts_of (steps ++ cut) ≡ facts) × (stopped ≡ false)
IsWhole m facts other = ⊥

-- the call for a record; of a datagram that is not whole its facts are those before the fault
pub record Brings (own : List ℕ) (r : Record) (e : Event) : Type 0 where
  pub heard : Heard
  pub hears : Hears own r.bytes heard
  pub whole : IsWhole r.moment heard.facts e

-- What one record does to a hub: it is called once for the record, and the reply has what that call acknowledges and refuses.
-- Beside it stand the ACKNACKs that the record tells.
pub record Admitted (own : List ℕ) (r : Record) (reply : Received) (asked : List Nack) (old new : Hub) : Type 0 where
  pub call : Event
  pub brings : Brings own r call
  pub acks : reply.acks ≡ acks_by call
  pub refused : reply.refused ≡ refusals_by call
  pub handled : reply.handled ≡ length brings.heard.facts
  pub nacks_are : asked ≡ nacks brings.heard.facts
  pub adds : Adds old call new

-- the calls for records, in their order
abbrev pub BringAll : List ℕ → List Record → List Event → Type 0
BringAll own [] [] = Unit {0}
BringAll own [] (e ∷ es) = ⊥
BringAll own (r ∷ rs) [] = ⊥
BringAll own (r ∷ rs) (e ∷ es) = Brings own r e × BringAll own rs es

-- What records admit over a start: the calls for them are legal there, and this is the run to which they lead.
pub record Admits (start : Run) (own : List ℕ) (rs : List Record) (run : Run) : Type 0 where
  pub calls : List Event
  pub brings : BringAll own rs calls
  pub legal : Legal start calls
  pub leads : run ≡ run_after start calls

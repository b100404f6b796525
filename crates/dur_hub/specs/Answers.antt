-- What the reply of a `receive` tells of its event.
use Rattle.std.specs.Prelude.{◌≡◌, ℕ, Bool, true, Option, List, [], ◌++◌, length}
use Rattle.dur_base.specs.declared.fact.Fact.{Fact}
use Rattle.dur_view.specs.Identities.{Guid}
use Rattle.dur_hub.specs.declared.event.Event.{Event}
use Rattle.dur_hub.specs.declared.event.Event.TheVariants as call
use Rattle.dur_hub.specs.declared.event.Step.{Step}
use Rattle.dur_hub.specs.declared.hub.Hub.{Hub}
use Rattle.dur_hub.specs.declared.ledger.Ledger.{Ledger}
use Rattle.dur_hub.specs.declared.line.Line.{Line}
use Rattle.dur_hub.specs.declared.reply.Received.{Received}
use Rattle.dur_hub.specs.Runs.{Run}
use Rattle.dur_hub.specs.Steps.{LegalSteps, after_steps}
use Rattle.dur_hub.specs.Handed.{acks_of}
use Rattle.dur_hub.specs.Legal.{AllWhole, IsLeft, facts_of}
use Rattle.dur_hub.specs.Places.{guids_of, IsIndex}
use Rattle.dur_hub.specs.Hearings.{refusals_of, KeepsDue}
use Rattle.dur_hub.specs.Leases.{leavers, after_lease, at_moment}
use Rattle.dur_hub.specs.LeftBehind.{AreLost}
use Rattle.dur_hub.specs.Hubs.{StandsAt, HubAt}

-- The facts are those of the steps and what was not heard; the answer has the acknowledgements and refusals of the steps, and how
-- many facts were handled whole.
pub record TellsOf (facts : List Fact) (reply : Received) (steps cut : List Step) : Type 0 where
  pub rest : List Fact
  pub told : facts ≡ facts_of (steps ++ cut) ++ rest
  pub left : IsLeft reply.stopped cut rest
  pub handled : reply.handled ≡ length steps
  pub acks : reply.acks ≡ acks_of (steps ++ cut)
  pub refused : reply.refused ≡ refusals_of (steps ++ cut)

abbrev pub TellsReceive : ℕ → List Fact → Received → Event → Type 0
TellsReceive m facts reply (call.Receive at lost steps cut stopped) =
    (at ≡ m) × (stopped ≡ reply.stopped) × TellsOf facts reply steps cut
TellsReceive m facts reply e = ⊥

-- What the facts of a call do, and its answer.
pub record Answers (l : Ledger) (ls : List Line) (index : Guid → Option ℕ) (due : Option ℕ) (m : ℕ) (facts : List Fact) (reply : Received) (l' : Ledger) (ls' : List Line) (due' : Option ℕ) : Type 0 where
  pub steps : List Step
  pub cut : List Step
  pub tells : TellsOf facts reply steps cut
  pub whole : AllWhole steps
  pub holds : (r : Run) → StandsAt l ls r → IsIndex index (guids_of r.writers) → r.moment ≡ m
      → LegalSteps r (steps ++ cut) × StandsAt l' ls' (after_steps r (steps ++ cut))
  pub until : KeepsDue l ls index m due due' (steps ++ cut)

-- the answer of a call that did no more than its lease step, for want of memory
pub record IsStopped (reply : Received) : Type 0 where
  pub acks : reply.acks ≡ []
  pub refused : reply.refused ≡ []
  pub handled : reply.handled ≡ 0
  pub stopped : reply.stopped ≡ true

-- What a lease step does to a hub.
pub record Begins (old : Hub) (m : ℕ) (done : Bool) (new : Hub) : Type 0 where
  pub count : ℕ
  pub holds : (r : Run) → HubAt old r →
      AreLost done count (length (leavers (at_moment m r)))
      × HubAt new (after_lease (at_moment m r) count)

-- What the facts of a call do to a hub, and its answer.
pub record AnswersFacts (old : Hub) (facts : List Fact) (reply : Received) (new : Hub) : Type 0 where
  pub steps : List Step
  pub cut : List Step
  pub tells : TellsOf facts reply steps cut
  pub whole : AllWhole steps
  pub holds : (r : Run) → HubAt old r → r.begun ≡ true →
      LegalSteps r (steps ++ cut) × HubAt new (after_steps r (steps ++ cut))

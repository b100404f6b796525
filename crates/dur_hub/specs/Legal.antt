-- Legal lists of calls.
use Rattle.std.specs.Prelude.{◌≡◌, ◌≢◌, ℕ, ◌+◌, ◌-◌, ◌%◌, ◌^◌, ◌≤◌, ◌<◌, ◌⊎◌, Bool, true, false, Some, None, Ok, Err, List, [], ◌∷◌, ◌++◌, map, length, take, drop}
use Rattle.std.specs.declared.result.Result.{Result}
use Rattle.dur_base.specs.declared.fact.Fact.{Fact}
use Rattle.dur_base.specs.declared.memory.OutOfMemory.{OutOfMemory}
use Rattle.dur_view.specs.Identities.{Guid}
use Rattle.dur_view.specs.declared.change.Batch.{Batch}
use Rattle.dur_view.specs.declared.change.Snapshot.{Snapshot}
use Rattle.dur_view.specs.declared.data.View.{View}
use Rattle.dur_view.specs.Persistent.{persistent}
use Rattle.dur_view.specs.View.{view}
use Rattle.dur_qos.specs.declared.plan.Plan.{Plan}
use Rattle.rtps_message.specs.Facts.{AreGood}
use Rattle.dur_hub.specs.declared.event.End.TheVariants.{Stopped}
use Rattle.dur_hub.specs.declared.event.Step.{Step}
use Rattle.dur_hub.specs.declared.event.Event.{Event}
use Rattle.dur_hub.specs.declared.event.Event.TheVariants as call
use Rattle.dur_hub.specs.declared.reply.SnapFault.{SnapFault}
use Rattle.dur_hub.specs.declared.reply.SnapFault.TheVariants as fault
use Rattle.dur_view.specs.Stored.{stored}
use Rattle.dur_hub.specs.Runs.{Run, opening}
use Rattle.dur_hub.specs.Leases.{leavers, after_lease, at_moment}
use Rattle.dur_hub.specs.Steps.{LegalSteps, after_steps}
use Rattle.dur_hub.specs.Replays.{refusal, IsReplay}

-- ---- receive and tick

-- each of the facts was handled whole
abbrev pub AllWhole : List Step → Type 0
AllWhole [] = Unit {0}
AllWhole (s ∷ ss) = (s.end ≢ Stopped) × AllWhole ss

-- at most one fact was cut off
abbrev pub IsCut : List Step → Type 0
IsCut [] = Unit {0}
IsCut (s ∷ []) = s.end ≡ Stopped
IsCut (s ∷ t ∷ ss) = ⊥

-- what is left where memory was wanting or not: without that, no fact is cut off and none is left
abbrev pub IsLeft : Bool → List Step → List Fact → Type 0
IsLeft true cut rest = IsCut cut
IsLeft false cut rest = (cut ≡ []) × (rest ≡ [])

abbrev pub facts_of : List Step → List Fact
facts_of ss = map (λ (s : Step). s.fact) ss

-- the lease step lost all that leave, or it ended before that for want of memory, and nothing came after it
abbrev pub IsLeased : ℕ → List Guid → Bool → List Step → Type 0
IsLeased n leaving stopped ss =
    (n ≡ length leaving) ⊎ ((n < length leaving) × (ss ≡ []) × (stopped ≡ true))

-- What a `receive` does: the lease step, then each fact in order; after want of memory it is a first part of that.
pub record LegalReceive (r : Run) (lost : ℕ) (steps cut : List Step) (stopped : Bool) : Type 0 where
  pub good : AreGood (facts_of (steps ++ cut))
  pub leased : IsLeased lost (leavers r) stopped (steps ++ cut)
  pub legal : LegalSteps (after_lease r lost) (steps ++ cut)
  pub whole : AllWhole steps
  pub left : IsLeft stopped cut []

abbrev pub after_receive : Run → ℕ → List Step → Run
after_receive r lost ss = after_steps (after_lease r lost) ss

-- ---- snapshot

-- it is given after a whole lease step; it is refused before it, but for want of memory
abbrev pub LegalSnapshot : Run → ℕ → Guid → ℕ → Result Snapshot SnapFault → Type 0
LegalSnapshot r m g lost (Ok s) =
    (refusal r.plan r.given g ≡ None) × (lost ≡ length (leavers (at_moment m r)))
    × IsReplay (after_lease (at_moment m r) lost) g s.changes
LegalSnapshot r m g lost (Err fault.OutOfMemory) =
    (refusal r.plan r.given g ≡ None) × (lost ≤ length (leavers (at_moment m r)))
LegalSnapshot r m g lost (Err fault.Unknown) = refusal r.plan r.given g ≡ Some fault.Unknown
LegalSnapshot r m g lost (Err fault.NotServed) = refusal r.plan r.given g ≡ Some fault.NotServed
LegalSnapshot r m g lost (Err fault.Already) = refusal r.plan r.given g ≡ Some fault.Already

-- for want of memory no replay counts as given; any other refusal changes nothing
abbrev pub after_snapshot : Run → ℕ → Guid → ℕ → Result Snapshot SnapFault → Run
after_snapshot r m g lost (Ok s) =
    record (after_lease (at_moment m r) lost) { given = r.given ++ g ∷ [] }
after_snapshot r m g lost (Err fault.OutOfMemory) = after_lease (at_moment m r) lost
after_snapshot r m g lost (Err fault.Unknown) = r
after_snapshot r m g lost (Err fault.NotServed) = r
after_snapshot r m g lost (Err fault.Already) = r

-- ---- take, take_view and mark

-- the first n persistent entries that were not handed out, or all where they are fewer
pub record IsBatch (r : Run) (n : ℕ) (b : Batch) : Type 0 where
  pub from : b.from ≡ r.taken % 2 ^ 64
  pub entries : b.entries ≡ take n (drop r.taken (stored r.history))

abbrev pub with_taken : Run → Batch → Run
with_taken r b = record r { taken = r.taken + length b.entries }

-- all of them, and the view after them
abbrev pub LegalView : Run → Result (Batch × View) OutOfMemory → Type 0
LegalView r (Ok given) =
    IsBatch r (length (stored r.history)) given.0 × (given.1 ≡ view (persistent r.history) r.moment)
LegalView r (Err e) = Unit {0}

abbrev pub after_view : Run → Result (Batch × View) OutOfMemory → Run
after_view r (Ok given) = with_taken r given.0
after_view r (Err e) = r

-- the least count from d on that is this one modulo 2^64
abbrev pub named : ℕ → ℕ → ℕ
named d upto = d + (upto + 2 ^ 64 - d % 2 ^ 64) % 2 ^ 64

-- ---- lists of calls

-- A call is legal where the run stands.
abbrev pub LegalAt : Run → Event → Type 0
LegalAt r (call.Receive m lost steps cut stopped) =
    LegalReceive (at_moment m r) lost steps cut stopped
LegalAt r (call.Snapshot m g lost reply) = LegalSnapshot r m g lost reply
LegalAt r (call.Take b) = IsBatch r 4096 b
LegalAt r (call.TakeView reply) = LegalView r reply
LegalAt r (call.Mark upto) = named r.durable upto ≤ r.taken
LegalAt r call.Stop = Unit {0}
LegalAt r call.Leave = Unit {0}
LegalAt r (call.State s) = (s.working ≡ r.working) × (s.stopped ≡ r.stopped)

-- Where the run stands after it. Who leaves where nobody works changes nothing.
abbrev pub after : Run → Event → Run
after r (call.Receive m lost steps cut stopped) = after_receive (at_moment m r) lost (steps ++ cut)
after r (call.Snapshot m g lost reply) = after_snapshot r m g lost reply
after r (call.Take b) = with_taken r b
after r (call.TakeView reply) = after_view r reply
after r (call.Mark upto) = record r { durable = named r.durable upto }
after r call.Stop = record r { stopped = true }
after r call.Leave = record r { working = r.working - 1 }
after r (call.State s) = r

-- A list of calls is legal where each is so at its place.
abbrev pub Legal : Run → List Event → Type 0
Legal r [] = Unit {0}
Legal r (e ∷ es) = LegalAt r e × Legal (after r e) es

abbrev pub run_after : Run → List Event → Run
run_after r [] = r
run_after r (e ∷ es) = run_after (after r e) es

-- Over a plan, the view that it opened with, and the number that work.
abbrev pub LegalOver : Plan → View → ℕ → List Event → Type 0
LegalOver plan v working log = Legal (opening plan v working) log

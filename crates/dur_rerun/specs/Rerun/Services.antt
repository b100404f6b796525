-- What handles the records of a run, and what one record does.
use Rattle.std.specs.Prelude.{◌≡◌, ℕ, ◌+◌, ◌≤◌, List, [], ◌∷◌, ◌++◌, Ok, Err}
use Rattle.std.specs.declared.result.Result.{Result}
use Rattle.dur_capture.specs.declared.record.Record.{Record}
use Rattle.dur_outside.specs.World.{World, Leaves}
use Rattle.dur_qos.specs.declared.plan.Plan.{Plan}
use Rattle.dur_journal.specs.declared.state.Journal.{Journal}
use Rattle.dur_journal.specs.Kept.{Kept, renewed}
use Rattle.dur_journal.specs.Journals.{Stands as StandsFor}
use Rattle.dur_hub.specs.declared.event.Event.{Event}
use Rattle.dur_hub.specs.declared.reply.Ack.{Ack}
use Rattle.dur_hub.specs.GoodRuns.{IsGoodRun}
use Rattle.dur_hub.specs.Handed.{acks_by, acks_in}
use Rattle.dur_hub.specs.Legal.{Legal, after as run_by, run_after}
use Rattle.dur_hub.specs.Hubs.{Stands as StandsAs}
use Rattle.dur_hub.specs.Openings.{MayOpen}
use Rattle.dur_hub.specs.Runs.{Run, opening}
use Rattle.dur_view.specs.declared.data.View.{View}
use Rattle.dur_rerun.specs.Input.Prefix.{own_prefix}
use Rattle.dur_rerun.specs.declared.admit.Brought.{Brought}
use Rattle.dur_rerun.specs.declared.status.Status.{Status}
use Rattle.dur_rerun.specs.declared.status.Status.TheVariants as status
use Rattle.dur_rerun.specs.declared.rerun.service.Service.{Service}
use Rattle.dur_rerun.specs.declared.rerun.nacks.Nack.{Nack}
use Rattle.dur_rerun.specs.Rerun.Courses.{Receives, RecordCalls, Course, kept_at, kept_through, place_at}
use Rattle.dur_rerun.specs.Rerun.Crashes.{IsHandling, IsKept}
use Rattle.dur_rerun.specs.Rerun.Opening.{IsOpening}
use Rattle.dur_rerun.specs.Rerun.Replies.{Place, Replies, BeginsReplies, nacks}
use Rattle.dur_rerun.specs.Rerun.Saying.{IsFront}
use Rattle.dur_rerun.specs.Rerun.Stores.{stored_all, IsSettled, IsKeeping, IsStored, EndsStoring, FailsToStore}

-- The service's hub stands for these calls over a good run of its plan, and all that was handed out is durable.
pub record Serves (begun : Run) (log : List Event) (service : Service) (position : ℕ) : Type 0 where
  pub good : IsGoodRun begun
  pub plan : begun.plan ≡ service.plan
  pub opens : IsOpening service.plan begun
  pub settled : IsSettled begun log service.hub position

abbrev pub ServesSome : Service → ℕ → Type 0
ServesSome service position = (begun : Run) × (log : List Event) × Serves begun log service position

-- The text went out, and the disk keeps this now, which stands for the later run.
pub record IsAnswered {D : Type 0} (plan : Plan) (k now : Kept) (later : Run) (text : List ℕ) (journal : Journal D) (w v : World) : Type 0 where
  pub stands : StandsFor plan now journal v
  pub keeping : IsKeeping plan now later
  pub rises : k.generation ≤ now.generation
  pub out : v.now.written ≡ w.now.written ++ text

-- what holds of each list of calls for which the service's hub stands
abbrev pub WhereServing : Service → ℕ → (Run → List Event → Type 0) → Type 0
WhereServing service position P = (begun : Run) (log : List Event) → Serves begun log service position → P begun log

-- what holds of all that the journal keeps, beside that
abbrev pub WhereServed : {D : Type 0} → Service → Journal D → World → (Plan → Kept → Run → List Event → Type 0) → Type 0
WhereServed service journal w P =
    (plan : Plan) (k : Kept) (begun : Run) (log : List Event) → StandsFor plan k journal w → Serves begun log service journal.position
    → IsKeeping plan k (run_after begun log) → P plan k begun log

-- A journal and the service beside it: what the one keeps stands for what the other handed out.
pub record MayServe {D : Type 0} (service : Service) (journal : Journal D) (w : World) : Type 0 where
  pub plan : Plan
  pub k : Kept
  pub begun : Run
  pub log : List Event
  pub stands : StandsFor plan k journal w
  pub serves : Serves begun log service journal.position
  pub keeping : IsKeeping plan k (run_after begun log)

-- The call for a record is legal behind these, and all that was handed out is durable there.
pub record HasReceived (begun : Run) (log : List Event) (call : Event) : Type 0 where
  pub legal : Legal begun (log ++ call ∷ [])
  pub good : IsGoodRun (run_after begun (log ++ call ∷ []))
  pub durable : (run_after begun (log ++ call ∷ [])).durable ≡ (run_after begun (log ++ call ∷ [])).taken

-- A record was received, and what it brought is stored.
pub record TakenIn {D : Type 0} (tells : Type 0) (begun : Run) (log : List Event) (r : Record) (old : Service) (first : Journal D) (new : Service) (now : Journal D) (acks : List Ack) (asked : List Nack) (w u : World) : Type 0 where
  pub received : Receives old.own (place_at begun log old.replays.begun.items) r
  pub acks_are : acks ≡ acks_by received.call
  pub asked_are : asked ≡ nacks received.brings.heard.facts
  pub has : HasReceived begun log received.call
  -- the calls that handed it out and marked it
  pub more : List Event
  pub serves : Serves begun ((log ++ received.call ∷ []) ++ more) new now.position
  pub leads : run_after begun ((log ++ received.call ∷ []) ++ more) ≡ stored_all (run_after begun (log ++ received.call ∷ []))
  pub silent : acks_in ((log ++ received.call ∷ []) ++ more) ≡ acks_in (log ++ received.call ∷ [])
  pub same : new ≡ record old { hub = new.hub }
  pub kept : tells → (plan : Plan) (k : Kept) → StandsFor plan k first w → IsKeeping plan k (run_after begun log)
      → IsStored plan k (run_after begun (log ++ received.call ∷ [])) now w u

-- The text for a record that was taken in went out.
pub record Answered {D : Type 0} (tells : Type 0) (begun : Run) (log : List Event) (port : ℕ) (acks : List Ack) (asked : List Nack) (old : Service) (first : Journal D) (new : Service) (now : Journal D) (w v : World) : Type 0 where
  pub text : List ℕ
  -- the snapshots that replays began with
  pub more : List Event
  pub serves : Serves begun (log ++ more) new now.position
  pub counts : (run_after begun (log ++ more)).taken ≡ (run_after begun log).taken
  pub silent : acks_in (log ++ more) ≡ acks_in log
  pub replies : Replies old.own port acks asked (place_at begun log old.replays.begun.items) text (place_at begun (log ++ more) new.replays.begun.items)
  pub own_is : new.own ≡ old.own
  pub out : tells → v.now.written ≡ w.now.written ++ text
  pub left : tells → Leaves w v (IsFront text w.now)
  pub stands : tells → (plan : Plan) (k : Kept) → StandsFor plan k first w → StandsFor plan k now v

-- Not all of it was made, or not all of what was made went out.
pub record CutShort (tells : Type 0) (own : List ℕ) (port : ℕ) (acks : List Ack) (asked : List Nack) (before : Place) (w v : World) : Type 0 where
  pub text : List ℕ
  pub begins : BeginsReplies own port acks asked before text
  pub left : tells → Leaves w v (IsFront text w.now)

-- What one record did: it was received, what it brought is stored, and what it calls for went out.
pub record Handled {D : Type 0} (tells : Type 0) (begun : Run) (log : List Event) (r : Record) (old : Service) (first : Journal D) (new : Service) (now : Journal D) (w v : World) : Type 0 where
  pub more : List Event
  pub serves : Serves begun (log ++ more) new now.position
  pub acks : List Ack
  pub text : List ℕ
  pub calls : RecordCalls old.own (place_at begun log old.replays.begun.items) r acks text (place_at begun (log ++ more) new.replays.begun.items)
  pub said : acks_in (log ++ more) ≡ acks_in log ++ acks
  pub own_is : new.own ≡ old.own
  pub kept : tells → (plan : Plan) (k : Kept) → StandsFor plan k first w → IsKeeping plan k (run_after begun log)
      → IsAnswered plan k (kept_at old.own (place_at begun log old.replays.begun.items) r calls.received k) (run_after begun (log ++ more)) text now w v

-- What a crash leaves of the handling of one record.
abbrev pub LeavesHandling : {D : Type 0} → Service → Journal D → Record → World → World → Type 0
LeavesHandling service journal r u v =
    WhereServed service journal u (λ plan k begun log. Leaves u v (IsHandling service.own plan k.generation begun log service.replays.begun.items r u.now))

-- What is kept after some records, and what a crash since the first may have left.
pub record IsKeptSoFar {D : Type 0} (own : List ℕ) (plan : Plan) (k now : Kept) (begun : Run) (records : List Record) (later : Run) (text : List ℕ) (journal : Journal D) (w u : World) : Type 0 where
  pub answered : IsAnswered plan k now later text journal w u
  pub left : Leaves w u (IsKept own plan k.generation begun records w.now)

-- These records were answered, one after the other.
pub record AnsweredAll {D : Type 0} (tells : Type 0) (own : List ℕ) (begun : Run) (records : List Record) (first now : Journal D) (service : Service) (w u : World) : Type 0 where
  pub log : List Event
  pub serves : Serves begun log service now.position
  pub own_is : service.own ≡ own
  pub acks : List Ack
  pub text : List ℕ
  pub course : Course own (place_at begun [] []) records acks text (place_at begun log service.replays.begun.items)
  pub said : acks ≡ acks_in log
  pub kept : tells → (plan : Plan) (k : Kept) → StandsFor plan k first w → IsKeeping plan k begun
      → IsKeptSoFar own plan k (kept_through own (place_at begun [] []) records acks text (place_at begun log service.replays.begun.items) course k) begun records
      (run_after begun log) text now w u

-- A journal and a service that begins with it.
pub record StartsFrom {D : Type 0} (service : Service) (journal : Journal D) (w : World) : Type 0 where
  pub plan : Plan
  pub k : Kept
  pub begun : Run
  pub stands : StandsFor plan k journal w
  pub serves : Serves begun [] service journal.position
  pub keeping : IsKeeping plan k begun

abbrev pub taken_rig : {R : Type 0} → Result (Journal R × Brought) (Status × R) → R
taken_rig (Ok r) = r.0.disk
taken_rig (Err e) = e.1

-- Why the handling of a record ended early, where nothing more could be stored: the record was received, and some batches of what it
-- brought were stored, but not the next one.
pub record IsFullAt (own : List ℕ) (plan : Plan) (before : Place) (r : Record) (s : Status) : Type 0 where
  pub received : Receives own before r
  pub fails : FailsToStore plan (run_by before.run received.call) s

abbrev pub StopsAt : List ℕ → Plan → Place → Record → Status → Type 0
StopsAt own plan before r (status.Full size) = IsFullAt own plan before r (status.Full size)
StopsAt own plan before r status.Worn = IsFullAt own plan before r status.Worn
StopsAt own plan before r s = Unit {0}

-- why the handling of a record ended early
abbrev pub StopsHandling : {D : Type 0} → Service → Journal D → Record → World → Status → Type 0
StopsHandling service journal r u s =
    WhereServed service journal u (λ plan k begun log. StopsAt service.own plan (place_at begun log service.replays.begun.items) r s)

-- what became of the records
abbrev pub ended : {R : Type 0} → Result (Journal R) (Status × R) → Status
ended (Ok journal) = status.Done
ended (Err e) = e.0

-- with this status an answer ends early, and the handling of a record
abbrev pub EndsAnswering : Status → Type 0
EndsAnswering status.WriteFault = Unit {0}
EndsAnswering status.OutOfMemory = Unit {0}
EndsAnswering s = ⊥

abbrev pub EndsHandling : Status → Type 0
EndsHandling status.WriteFault = Unit {0}
EndsHandling s = EndsStoring s

-- ---- how a run begins

-- a service over a plan and a view, which has heard nothing
pub record Begins (plan : Plan) (view : View) (epoch : ℕ) (service : Service) : Type 0 where
  pub own : service.own ≡ own_prefix epoch plan
  pub plan_is : service.plan ≡ plan
  pub may : MayOpen plan view
  pub opens : IsOpening plan (opening plan view 0)
  pub stands : StandsAs (opening plan view 0) [] service.hub
  pub none : service.replays.begun.items ≡ []

-- the journal was opened with that view, under that epoch
pub record IsFoundFor {D : Type 0} (plan : Plan) (view : View) (epoch : ℕ) (journal : Journal D) (w : World) : Type 0 where
  pub k : Kept
  pub stands : StandsFor plan (renewed view k) journal w
  pub epoch_is : epoch ≡ k.generation + 1

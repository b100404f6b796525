-- How what is handed out is stored, batch by batch.
use Rattle.std.specs.Prelude.{zero, suc, ◌≡◌, ◌≢◌, ℕ, ◌+◌, ◌<◌, ◌≤◌, ◌%◌, ◌^◌, nat_lt, if◌then◌else◌, List, [], ◌∷◌, ◌++◌, length, take, drop, Ok, Err}
use Rattle.std.specs.declared.result.Result.{Result}
use Rattle.dur_base.specs.declared.entry.Entry.{Entry}
use Rattle.dur_outside.specs.World.{Image, World, Leaves}
use Rattle.dur_qos.specs.declared.plan.Plan.{Plan}
use Rattle.dur_view.specs.History.{start}
use Rattle.dur_view.specs.View.{view}
use Rattle.dur_view.specs.Persistent.{persistent}
use Rattle.dur_view.specs.Stored.{stored, durable_part}
use Rattle.dur_record.specs.WholeTexts.{view_text}
use Rattle.dur_journal.specs.declared.state.Journal.{Journal}
use Rattle.dur_journal.specs.Histories.{IsWhole}
use Rattle.dur_journal.specs.Kept.{Kept, Keeps, extended, renewed}
use Rattle.dur_journal.specs.Journals.{last_generation, Stands as StandsFor}
use Rattle.dur_hub.specs.declared.event.Event.{Event}
use Rattle.dur_hub.specs.declared.hub.Hub.{Hub}
use Rattle.dur_hub.specs.Handed.{acks_by, acks_in}
use Rattle.dur_hub.specs.Hubs.{Stands}
use Rattle.dur_hub.specs.Legal.{run_after}
use Rattle.dur_hub.specs.Readings.{has_pending}
use Rattle.dur_hub.specs.Runs.{Run}
use Rattle.dur_rerun.specs.declared.status.Status.{Status}
use Rattle.dur_rerun.specs.declared.status.Status.TheVariants as status
use Rattle.dur_rerun.specs.Rerun.Kept.{IsCutOf, IsBehind}

-- ---- what is stored next

-- the entries of persistent topics that were not handed out yet
abbrev pub pending : Run → List Entry
pending run = drop run.taken (stored run.history)

-- what a view of all that is stored then has in it
abbrev pub next_view : Run → ℕ
next_view run = length (view_text (view (persistent run.history) run.moment))

-- By the rule of compaction: 4,096 entries at most while the records of the live file have fewer than 2^20 octets, else all.
abbrev pub next_batch : ℕ → Run → List Entry
next_batch appended run = if nat_lt appended (2 ^ 20) then take 4096 (pending run) else pending run

-- what is kept then: these as a record behind the others, or the view of all that is stored in the place of everything
abbrev pub kept_next : Kept → Run → Kept
kept_next k run =
    if nat_lt k.appended (2 ^ 20) then extended (take 4096 (pending run)) k
    else renewed (view (persistent run.history) run.moment) k

-- so many entries more are handed out and durable
abbrev pub with_stored : ℕ → Run → Run
with_stored n run = record run { taken = run.taken + n; durable = run.taken + n }

-- What is kept once so many batches of what waits are stored, one after the other, each by the rule of compaction; where fewer
-- wait, once all is.
abbrev pub kept_by : ℕ → Kept → Run → Kept
kept_by zero k run = k
kept_by (suc n) k run =
    if has_pending run then kept_by n (kept_next k run) (with_stored (length (next_batch k.appended run)) run) else k

-- What is kept once all that waits is stored by the rule of compaction, history, generation and octets appended: each batch has
-- one entry at least.
abbrev pub kept_all : Kept → Run → Kept
kept_all k run = kept_by (length (pending run)) k run

-- each persistent entry is handed out and durable
abbrev pub stored_all : Run → Run
stored_all run =
    record run { taken = length (stored run.history); durable = length (stored run.history) }

-- ---- a hub beside a journal

-- The hub stands for these calls. All that it handed out is durable, and the journal counts as much.
pub record IsSettled (begun : Run) (log : List Event) (hub : Hub) (position : ℕ) : Type 0 where
  pub stands : Stands begun log hub
  pub durable : (run_after begun log).durable ≡ (run_after begun log).taken
  pub counts : position ≡ (run_after begun log).taken % 2 ^ 64

-- Some calls.
abbrev pub IsSettledSome : Hub → ℕ → Type 0
IsSettledSome hub position = (begun : Run) × (log : List Event) × IsSettled begun log hub position

-- A call handed these entries out, and the journal stored them. It acknowledges nothing.
pub record HandsOut {D : Type 0} (begun : Run) (log : List Event) (es : List Entry) (hub : Hub) (journal : Journal D) (upto : ℕ) : Type 0 where
  pub call : Event
  pub stands : Stands begun (log ++ call ∷ []) hub
  pub leads : run_after begun (log ++ call ∷ [])
      ≡ record (run_after begun log) { taken = (run_after begun log).taken + length es }
  pub silent : acks_by call ≡ []
  pub small : length es < 2 ^ 64
  pub counts : journal.position ≡ ((run_after begun log).taken + length es) % 2 ^ 64
  pub receipt : upto ≡ journal.position

-- Calls that hand out so many entries more and, once these are stored, mark them. They acknowledge nothing.
pub record PassesOn (begun : Run) (log : List Event) (n : ℕ) (hub : Hub) (position : ℕ) : Type 0 where
  pub more : List Event
  pub settled : IsSettled begun (log ++ more) hub position
  pub leads : run_after begun (log ++ more) ≡ with_stored n (run_after begun log)
  pub silent : acks_in (log ++ more) ≡ acks_in log

-- What is kept stands for what the hub handed out, and lacks nothing that the plan declares.
pub record IsKeeping (plan : Plan) (k : Kept) (run : Run) : Type 0 where
  pub behind : IsBehind k.history run.history run.taken run.moment
  pub whole : IsWhole plan (start (persistent run.history))

-- what holds of each list of calls for which the hub stands beside such a journal
abbrev pub WhereSettled : Hub → ℕ → (Run → List Event → Type 0) → Type 0
WhereSettled hub position P = (begun : Run) (log : List Event) → IsSettled begun log hub position → P begun log

-- what holds of all that the journal keeps, beside that
abbrev pub WhereKeeping : {D : Type 0} → Journal D → Hub → World → (Plan → Kept → Run → Type 0) → Type 0
WhereKeeping journal hub w P =
    (plan : Plan) (k : Kept) (begun : Run) (log : List Event) → StandsFor plan k journal w → IsSettled begun log hub journal.position
    → IsKeeping plan k (run_after begun log) → P plan k (run_after begun log)

-- What a crash leaves while what waits is stored: all that was durable before, and a front of what waits.
pub record IsStoring (plan : Plan) (generation : ℕ) (run : Run) (old c : Image) : Type 0 where
  pub k : Kept
  pub keeps : Keeps plan c k
  pub n : ℕ
  pub least : run.taken ≤ n
  pub most : n ≤ length (stored run.history)
  pub cut : IsCutOf k.history (durable_part run.history n)
  pub later : generation ≤ k.generation
  pub out : c.written ≡ old.written

-- Why a batch was not stored: a compaction was due, and there is no generation left or the view's text is too long; or the disk
-- failed, or there was no memory.
abbrev pub StoreFails : ℕ → ℕ → Run → Status → Type 0
StoreFails appended generation run status.Worn = (2 ^ 20 ≤ appended) × (generation ≡ last_generation)
StoreFails appended generation run (status.Full size) =
    (2 ^ 20 ≤ appended) × (generation ≢ last_generation) × (size ≡ next_view run) × (2 ^ 30 < size)
StoreFails appended generation run status.DiskFault = Unit {0}
StoreFails appended generation run status.OutOfMemory = Unit {0}
StoreFails appended generation run s = ⊥

-- with this status storing ends early
abbrev pub EndsStoring : Status → Type 0
EndsStoring status.Worn = Unit {0}
EndsStoring (status.Full size) = Unit {0}
EndsStoring status.DiskFault = Unit {0}
EndsStoring status.OutOfMemory = Unit {0}
EndsStoring s = ⊥

-- Calls that hand out and mark all that waits. They acknowledge nothing.
pub record StoresAll (begun : Run) (log : List Event) (hub : Hub) (position : ℕ) : Type 0 where
  pub more : List Event
  pub settled : IsSettled begun (log ++ more) hub position
  pub leads : run_after begun (log ++ more) ≡ stored_all (run_after begun log)
  pub silent : acks_in (log ++ more) ≡ acks_in log

-- What waited is stored by the rule of compaction, and nothing was written out.
pub record IsStored {D : Type 0} (plan : Plan) (k : Kept) (run : Run) (journal : Journal D) (w v : World) : Type 0 where
  pub stands : StandsFor plan (kept_all k run) journal v
  pub keeping : IsKeeping plan (kept_all k run) (stored_all run)
  pub rises : k.generation ≤ (kept_all k run).generation
  pub out : v.now.written ≡ w.now.written

-- Some of what waited is stored: the disk kept this, and a crash since left no less; now it keeps what stands for the later run,
-- and the rule of compaction leads from both to the same.
pub record IsStoredUp {D : Type 0} (plan : Plan) (k : Kept) (run later : Run) (journal : Journal D) (w v : World) : Type 0 where
  pub left : Leaves w v (IsStoring plan k.generation run w.now)
  pub now : Kept
  pub stands : StandsFor plan now journal v
  pub keeping : IsKeeping plan now later
  pub rises : k.generation ≤ now.generation
  pub out : v.now.written ≡ w.now.written
  pub rule : kept_all k run ≡ kept_all now later

-- The batches so far.
pub record StoringSoFar {D : Type 0} (tells : Type 0) (begun : Run) (log : List Event) (first now : Journal D) (hub : Hub) (w u : World) : Type 0 where
  pub n : ℕ
  pub passes : PassesOn begun log n hub now.position
  pub kept : tells → (plan : Plan) (k : Kept) → StandsFor plan k first w → IsKeeping plan k (run_after begun log)
      → IsStoredUp plan k (run_after begun log) (with_stored n (run_after begun log)) now w u

-- A journal and a hub beside it: what the one keeps stands for what the other handed out.
pub record MayStore {D : Type 0} (journal : Journal D) (hub : Hub) (w : World) : Type 0 where
  pub plan : Plan
  pub k : Kept
  pub begun : Run
  pub log : List Event
  pub stands : StandsFor plan k journal w
  pub settled : IsSettled begun log hub journal.position
  pub keeping : IsKeeping plan k (run_after begun log)

-- Some batches were stored, and the next one was not.
pub record FailsToStore (plan : Plan) (run : Run) (s : Status) : Type 0 where
  pub n : ℕ
  pub now : Kept
  pub keeping : IsKeeping plan now (with_stored n run)
  pub why : StoreFails now.appended now.generation (with_stored n run) s

-- ---- the rig of a run

abbrev pub stored_rig : {R : Type 0} → Result (Journal R × ℕ) (Status × R) → R
stored_rig (Ok r) = r.0.disk
stored_rig (Err e) = e.1

abbrev pub rig_of : {R : Type 0} → Result (Journal R) (Status × R) → R
rig_of (Ok journal) = journal.disk
rig_of (Err e) = e.1

-- Batch after batch.
use Rattle.std.proofs.Common.{zero, suc, ◌≤◌, ◌≡◌, ℕ, ◌+◌, ◌-◌, ◌<◌, ◌^◌, List, [], ◌++◌, length, take, refl, sym, ap, subst, ◌∙◌, Bool, true, false, cond, arith, append-nil, append_assoc}
use Rattle.std.specs.Prelude.{nat_lt}
use Rattle.std.proofs.lemmas.List.{length-take, length-drop}
use Rattle.std.proofs.lemmas.Bool.{ltb-true, ltb-false, le-ltb}
use Rattle.dur_outside.specs.World.{World, IsSound, Leaves}
use Rattle.dur_outside.proofs.Runs.{still, joins, weaker}
use Rattle.dur_qos.specs.declared.plan.Plan.{Plan}
use Rattle.dur_view.specs.Stored.{stored}
use Rattle.dur_journal.specs.declared.state.Journal.{Journal}
use Rattle.dur_journal.specs.Kept.{Kept, IsOneOf}
use Rattle.dur_journal.specs.Journals.{IsReady, Stands as StandsFor}
use Rattle.dur_journal.proofs.Standing.{handed_back}
use Rattle.dur_hub.specs.Queues.{joined}
use Rattle.dur_hub.specs.Readings.{has_pending}
use Rattle.dur_hub.specs.declared.event.Event.{Event}
use Rattle.dur_hub.specs.declared.hub.Hub.{Hub}
use Rattle.dur_hub.specs.Runs.{Run}
use Rattle.dur_hub.specs.Handed.{acks_in}
use Rattle.dur_hub.specs.Hubs.{Stands}
use Rattle.dur_hub.specs.GoodRuns.{IsGoodRun}
use Rattle.dur_hub.specs.Legal.{run_after}
use Rattle.dur_rerun.specs.Rerun.Stores.{pending, next_batch, kept_next, kept_by, kept_all, with_stored, stored_all, IsSettled, IsSettledSome, PassesOn, StoresAll, IsKeeping, IsStored, IsStoring, IsStoredUp, StoringSoFar, MayStore, StoreFails, EndsStoring, FailsToStore}
use Rattle.dur_rerun.specs.declared.status.Status.{Status}
use Rattle.dur_rerun.specs.declared.status.Status.TheVariants as status
use Rattle.dur_rerun.proofs.Batches.{storing_one, storing_later, keeping_next, later_next}

-- ---- batch after batch

later_stored : (r : Run) (n m : ℕ) → with_stored m (with_stored n r) ≡ with_stored (n + m) r
later_stored r n m = let e : r.taken + n + m ≡ r.taken + (n + m) = omega arith in ap (λ t. record r { taken = t; durable = t }) e

none_stored : (r : Run) → r.durable ≡ r.taken → with_stored 0 r ≡ r
none_stored r settled = let e : r.taken + 0 ≡ r.taken = omega arith in
    ap (λ t. record r { taken = t; durable = t }) e ∙ ap (λ t. record r { durable = t }) (sym settled)

pub stored_first : {D : Type 0} (tells : Type 0) (begun : Run) (log : List Event) (journal : Journal D) (hub : Hub) (w : World) → IsSettled begun log hub journal.position → StoringSoFar tells begun log journal journal hub w w
stored_first tells begun log journal hub w settled =
    let same : log ++ [] ≡ log = append-nil log in
    let none : with_stored 0 (run_after begun log) ≡ run_after begun log = none_stored (run_after begun log) settled.durable in
    record {
      n = 0;
      passes = record {
        more = [];
        settled = subst (λ (l : List Event). IsSettled begun l hub journal.position) (sym same) settled;
        leads = ap (run_after begun) same ∙ sym none;
        silent = ap acks_in same;
      };
      kept = λ told plan k stands keeping. record {
        left = still w (IsStoring plan k.generation (run_after begun log) w.now);
        now = k;
        stands = stands;
        keeping = subst (IsKeeping plan k) (sym none) keeping;
        rises = omega arith;
        out = refl;
        rule = ap (kept_all k) (sym none);
      };
    }

-- ---- the rule of compaction

-- a batch takes some of what waits
next_some : (n : ℕ) (r : Run) → has_pending r ≡ true → 0 < length (next_batch n r)
next_some n r some = some_by (nat_lt n (2 ^ 20)) where
  some_by : (b : Bool) → 0 < length (cond b (take 4096 (pending r)) (pending r))
  some_by true = omega (arith, ltb-true r.taken (length (stored r.history)) some, length-take 4096 (pending r), length-drop r.taken (stored r.history))
  some_by false = omega (arith, ltb-true r.taken (length (stored r.history)) some, length-drop r.taken (stored r.history))

-- nothing waits
pub none_kept : (n : ℕ) (k : Kept) (r : Run) → has_pending r ≡ false → kept_by n k r ≡ k
none_kept zero k r none = refl
none_kept (suc n) k r none =
    ap (λ b. cond b (kept_by n (kept_next k r) (with_stored (length (next_batch k.appended r)) r)) k) none

waits_none : (r : Run) → length (pending r) ≤ 0 → has_pending r ≡ false
waits_none r none = le-ltb r.taken (length (stored r.history)) (omega (arith, none, length-drop r.taken (stored r.history)))

-- a batch leaves fewer
left_fewer : (n : ℕ) (k : Kept) (r : Run) → has_pending r ≡ true → length (pending r) ≤ suc n
    → length (pending (with_stored (length (next_batch k.appended r)) r)) ≤ n
left_fewer n k r some most =
    let m = length (next_batch k.appended r) in
    omega (arith, most, next_some k.appended r some, length-drop r.taken (stored r.history), length-drop (r.taken + m) (stored r.history))

-- more rounds than entries change nothing
enough : (n m : ℕ) (k : Kept) (r : Run) → length (pending r) ≤ n → length (pending r) ≤ m → kept_by n k r ≡ kept_by m k r
enough zero m k r a b = sym (none_kept m k r (waits_none r a))
enough (suc n) zero k r a b = none_kept (suc n) k r (waits_none r b)
enough (suc n) (suc m) k r a b =
    by_case (has_pending r) refl
    (λ e. enough n m (kept_next k r) (with_stored (length (next_batch k.appended r)) r) (left_fewer n k r e a) (left_fewer m k r e b)) where
      by_case : (w : Bool) → has_pending r ≡ w
          → (has_pending r ≡ true
          → kept_by n (kept_next k r) (with_stored (length (next_batch k.appended r)) r)
          ≡ kept_by m (kept_next k r) (with_stored (length (next_batch k.appended r)) r))
          → cond w (kept_by n (kept_next k r) (with_stored (length (next_batch k.appended r)) r)) k
          ≡ cond w (kept_by m (kept_next k r) (with_stored (length (next_batch k.appended r)) r)) k
      by_case true e rest = rest e
      by_case false e rest = refl

-- one batch, and then the others
next_kept : (k : Kept) (r : Run) → has_pending r ≡ true → kept_all k r ≡ kept_all (kept_next k r) (with_stored (length (next_batch k.appended r)) r)
next_kept k r some =
    let n = length (pending r) in
    let q = with_stored (length (next_batch k.appended r)) r in
    enough n (suc n) k r (omega arith) (omega arith)
    ∙ ap (λ b. cond b (kept_by n (kept_next k r) q) k) some
    ∙ enough n (length (pending q)) (kept_next k r) q (omega (arith, left_fewer n k r some (omega arith))) (omega arith)

-- what one batch does
abbrev pub PassesBatch : {D : Type 0} → Journal D → Hub → Journal D → Hub → Type 0
PassesBatch old hub new hub' =
    (b : Run) (l : List Event) → IsSettled b l hub old.position → PassesOn b l (length (next_batch old.appended (run_after b l))) hub' new.position

abbrev pub LeavesBatch : {D : Type 0} → Journal D → Hub → World → World → Type 0
LeavesBatch old hub u v =
    (plan : Plan) (k : Kept) (b : Run) (l : List Event) → StandsFor plan k old u → IsSettled b l hub old.position → IsKeeping plan k (run_after b l) → Leaves u v (IsOneOf plan u.now k (kept_next k (run_after b l)))

abbrev pub KeepsBatch : {D : Type 0} → Journal D → Hub → World → Journal D → World → Type 0
KeepsBatch old hub u new v =
    (plan : Plan) (k : Kept) (b : Run) (l : List Event) → StandsFor plan k old u → IsSettled b l hub old.position → IsKeeping plan k (run_after b l) → StandsFor plan (kept_next k (run_after b l)) new v

-- the crash states with one batch more, which may have failed
pub left_more : {D : Type 0} (tells : Type 0) (begun : Run) (log : List Event) (first mid : Journal D) (hub : Hub) (w u v : World) (plan : Plan) (k : Kept) → (s : StoringSoFar tells begun log first mid hub w u) → tells
    → StandsFor plan k first w → IsKeeping plan k (run_after begun log) → LeavesBatch mid hub u v → Leaves w v (IsStoring plan k.generation (run_after begun log) w.now)
left_more tells begun log first mid hub w u v plan k s told stands keeping leaves =
    let up = s.kept told plan k stands keeping in
    let l = log ++ s.passes.more in
    let r = run_after begun log in
    let here : IsKeeping plan up.now (run_after begun l) = subst (IsKeeping plan up.now) (sym s.passes.leads) up.keeping in
    let good : IsGoodRun (run_after begun l) = s.passes.settled.stands.at.at.good in
    joins w u v (IsStoring plan k.generation r w.now) up.left
    (weaker u v _ _ (leaves plan up.now begun l up.stands s.passes.settled here)
    (λ c one. storing_later plan k.generation s.n r up.now.generation w.now u.now c up.out up.rises
    (subst (λ (x : Run). IsStoring plan up.now.generation x u.now c) s.passes.leads (storing_one plan up.now (run_after begun l) u.now c good here one))))

pub stored_more : {D : Type 0} (tells : Type 0) (begun : Run) (log : List Event) (first mid new : Journal D) (hub hub' : Hub) (w u v : World) → StoringSoFar tells begun log first mid hub w u
    → PassesBatch mid hub new hub' → (tells → LeavesBatch mid hub u v) → (tells → KeepsBatch mid hub u new v) → (tells → IsSound u) → (tells → IsSound v)
    → (waits : Bool) → ((b : Run) (l : List Event) → Stands b l hub → waits ≡ has_pending (run_after b l)) → waits ≡ true
    → StoringSoFar tells begun log first new hub' w v
stored_more tells begun log first mid new hub hub' w u v s passes leaves keeps sound-u sound-v waits asks some =
    let l = log ++ s.passes.more in
    let x = run_after begun l in
    let m = length (next_batch mid.appended x) in
    let p = passes begun l s.passes.settled in
    let r = run_after begun log in
    let both : log ++ (s.passes.more ++ p.more) ≡ l ++ p.more = sym (append_assoc log s.passes.more p.more) in
    let leads : run_after begun (l ++ p.more) ≡ with_stored (s.n + m) r = p.leads ∙ ap (with_stored m) s.passes.leads ∙ later_stored r s.n m in
    let good : IsGoodRun x = s.passes.settled.stands.at.at.good in
    record {
      n = s.n + m;
      passes = record {
        more = s.passes.more ++ p.more;
        settled = subst (λ (y : List Event). IsSettled begun y hub' new.position) (sym both) p.settled;
        leads = ap (run_after begun) both ∙ leads;
        silent = ap acks_in both ∙ p.silent ∙ s.passes.silent;
      };
      kept = λ told plan k stands keeping.
          let up = s.kept told plan k stands keeping in
          let here : IsKeeping plan up.now x = subst (IsKeeping plan up.now) (sym s.passes.leads) up.keeping in
          let run = leaves told plan up.now begun l up.stands s.passes.settled here in
          let m_is : length (next_batch up.now.appended x) ≡ m = ap (λ a. length (next_batch a x)) (sym up.stands.appended) in
          let at = ap (λ n. with_stored n x) m_is ∙ ap (with_stored m) s.passes.leads ∙ later_stored r s.n m in
          record {
            left = left_more tells begun log first mid hub w u v plan k s told stands keeping (leaves told);
            now = kept_next up.now x;
            stands = keeps told plan up.now begun l up.stands s.passes.settled here;
            keeping = subst (IsKeeping plan (kept_next up.now x)) at (keeping_next plan up.now x good here);
            rises = omega (arith, up.rises, later_next up.now x);
            out = (handed_back plan up.now (kept_next up.now x) mid u v (sound-u told) (sound-v told) up.stands run).out ∙ up.out;
            rule = up.rule ∙ ap (kept_all up.now) (sym s.passes.leads)
                ∙ next_kept up.now x (sym (asks begun l s.passes.settled.stands) ∙ some) ∙ ap (kept_all (kept_next up.now x)) at;
          };
    }

-- ---- all batches

pending_none : (r : Run) → IsGoodRun r → has_pending r ≡ false → r.taken ≡ length (stored r.history)
pending_none r good none = let no = ltb-false r.taken (length (stored r.history)) none in omega (arith, good.taken, no)

all_is : (r : Run) (n : ℕ) → r.taken + n ≡ length (stored r.history) → with_stored n r ≡ stored_all r
all_is r n is = ap (λ t. record r { taken = t; durable = t }) is

-- nothing waits any more
ended_is : {D : Type 0} (tells : Type 0) (begun : Run) (log : List Event) (first now : Journal D) (hub : Hub) (w u : World) (waits : Bool) → (s : StoringSoFar tells begun log first now hub w u)
    → ((b : Run) (l : List Event) → Stands b l hub → waits ≡ has_pending (run_after b l)) → waits ≡ false → with_stored s.n (run_after begun log) ≡ stored_all (run_after begun log)
ended_is tells begun log first now hub w u waits s asks none =
    let l = log ++ s.passes.more in
    let st = s.passes.settled.stands in
    let x = run_after begun l in
    let done = pending_none x st.at.at.good (sym (asks begun l st) ∙ none) in
    all_is (run_after begun log) s.n (sym (ap (λ (y : Run). y.taken) s.passes.leads) ∙ done ∙ ap (λ (y : Run). length (stored y.history)) s.passes.leads)

pub ended_passes : {D : Type 0} (tells : Type 0) (begun : Run) (log : List Event) (first now : Journal D) (hub : Hub) (w u : World) (waits : Bool) → StoringSoFar tells begun log first now hub w u
    → ((b : Run) (l : List Event) → Stands b l hub → waits ≡ has_pending (run_after b l)) → waits ≡ false → StoresAll begun log hub now.position
ended_passes tells begun log first now hub w u waits s asks none = record {
  more = s.passes.more;
  settled = s.passes.settled;
  leads = s.passes.leads ∙ ended_is tells begun log first now hub w u waits s asks none;
  silent = s.passes.silent;
}

pub ended_kept : {D : Type 0} (tells : Type 0) (begun : Run) (log : List Event) (first now : Journal D) (hub : Hub) (w u : World) (waits : Bool) (plan : Plan) (k : Kept) → StoringSoFar tells begun log first now hub w u
    → ((b : Run) (l : List Event) → Stands b l hub → waits ≡ has_pending (run_after b l)) → waits ≡ false → tells → StandsFor plan k first w → IsKeeping plan k (run_after begun log)
    → IsStored plan k (run_after begun log) now w u
ended_kept tells begun log first now hub w u waits plan k s asks none told stands keeping =
    let r = run_after begun log in
    let l = log ++ s.passes.more in
    let up = s.kept told plan k stands keeping in
    let no : has_pending (with_stored s.n r) ≡ false = ap has_pending (sym s.passes.leads) ∙ sym (asks begun l s.passes.settled.stands) ∙ none in
    let all : up.now ≡ kept_all k r = sym (up.rule ∙ none_kept (length (pending (with_stored s.n r))) up.now (with_stored s.n r) no) in
    record {
      stands = subst (λ (x : Kept). StandsFor plan x now u) all up.stands;
      keeping = subst (λ (x : Kept). IsKeeping plan x (stored_all r)) all
          (subst (IsKeeping plan up.now) (ended_is tells begun log first now hub w u waits s asks none) up.keeping);
      rises = subst (λ (x : Kept). k.generation ≤ x.generation) all up.rises;
      out = up.out;
    }

-- ---- how many entries wait

abbrev pub waiting : Hub → ℕ
waiting hub = length (joined hub.ledger.queue.full.items ++ hub.ledger.queue.last.items)

waiting_is : (begun : Run) (log : List Event) (hub : Hub) → Stands begun log hub → waiting hub ≡ length (pending (run_after begun log))
waiting_is begun log hub stands = ap length stands.at.at.ledger.queued.lined.pending

-- a batch leaves fewer
pub fewer : {D : Type 0} (old new : Journal D) (hub hub' : Hub) (waits : Bool) → IsSettledSome hub old.position → PassesBatch old hub new hub'
    → ((b : Run) (l : List Event) → Stands b l hub → waits ≡ has_pending (run_after b l)) → waits ≡ true → waiting hub' < waiting hub
fewer old new hub hub' waits some passes asks is =
    let r = run_after some.0 some.1 in
    let st = some.2.stands in
    let p = passes some.0 some.1 some.2 in
    let q = run_after some.0 (some.1 ++ p.more) in
    let m = next_some old.appended r (sym (asks some.0 some.1 st) ∙ is) in
    let one : waiting hub ≡ length (stored r.history) - r.taken = waiting_is some.0 some.1 hub st ∙ length-drop r.taken (stored r.history) in
    let two : waiting hub' ≡ length (stored q.history) - q.taken = waiting_is some.0 (some.1 ++ p.more) hub' p.settled.stands ∙ length-drop q.taken (stored q.history) in
    let taken : q.taken ≡ r.taken + length (next_batch old.appended r) = ap (λ (x : Run). x.taken) p.leads in
    let size : length (stored q.history) ≡ length (stored r.history) = ap (λ (x : Run). length (stored x.history)) p.leads in
    let waits_for = ltb-true r.taken (length (stored r.history)) (sym (asks some.0 some.1 st) ∙ is) in
    omega (arith, one, two, taken, size, m, waits_for)

pub settled_on : {D : Type 0} (tells : Type 0) (first now : Journal D) (hub hub' : Hub) (w u : World) → IsSettledSome hub first.position
    → ((b : Run) (l : List Event) → IsSettled b l hub first.position → StoringSoFar tells b l first now hub' w u) → IsSettledSome hub' now.position
settled_on tells first now hub hub' w u some so =
    let s = so some.0 some.1 some.2 in (some.0, some.1 ++ s.passes.more, s.passes.settled)

-- ---- why it ends early

pub ends_storing : (appended generation : ℕ) (r : Run) (s : Status) → StoreFails appended generation r s → EndsStoring s
ends_storing appended generation r status.Worn fails = tt
ends_storing appended generation r status.TooMany fails = absurd fails
ends_storing appended generation r (status.Full size) fails = tt
ends_storing appended generation r status.DiskFault fails = tt
ends_storing appended generation r status.OutOfMemory fails = tt
ends_storing appended generation r status.Done fails = absurd fails
ends_storing appended generation r status.Usage fails = absurd fails
ends_storing appended generation r (status.Input place fault) fails = absurd fails
ends_storing appended generation r status.ReadFault fails = absurd fails
ends_storing appended generation r status.WriteFault fails = absurd fails
ends_storing appended generation r (status.Plan line kind) fails = absurd fails
ends_storing appended generation r (status.NotAJournal file place) fails = absurd fails
ends_storing appended generation r (status.PlanDiffers name) fails = absurd fails

pub fails_so : {D : Type 0} (tells : Type 0) (begun : Run) (log : List Event) (first now : Journal D) (hub : Hub) (w u : World) (plan : Plan) (k : Kept) (why : Status) → StoringSoFar tells begun log first now hub w u
    → ((b : Run) (l : List Event) → IsSettled b l hub now.position → StoreFails now.appended now.generation (run_after b l) why) → tells → StandsFor plan k first w → IsKeeping plan k (run_after begun log)
    → FailsToStore plan (run_after begun log) why
fails_so tells begun log first now hub w u plan k why s fails told stands keeping =
    let up = s.kept told plan k stands keeping in
    let at = fails begun (log ++ s.passes.more) s.passes.settled in
    record {
      n = s.n;
      now = up.now;
      keeping = up.keeping;
      why = subst (λ (x : Run). StoreFails up.now.appended up.now.generation x why) s.passes.leads
          (subst (λ a. StoreFails a up.now.generation (run_after begun (log ++ s.passes.more)) why) up.stands.appended
          (subst (λ a. StoreFails now.appended a (run_after begun (log ++ s.passes.more)) why) up.stands.generation at));
    }

-- the journal is ready for the next batch
pub ready_on : {D : Type 0} (tells : Type 0) (first now : Journal D) (hub hub' : Hub) (w u : World) → (m : MayStore first hub w)
    → ((b : Run) (l : List Event) → IsSettled b l hub first.position → StoringSoFar tells b l first now hub' w u) → tells → IsReady now u
ready_on tells first now hub hub' w u m so told =
    let up = (so m.begun m.log m.settled).kept told m.plan m.k m.stands m.keeping in
    record { plan = m.plan; k = up.now; stands = up.stands }

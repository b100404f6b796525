-- One record: it is received, what it brings is stored, and then it is answered.
use Rattle.std.proofs.Common.{◌≡◌, inl, inr, ℕ, ◌≤◌, ◌%◌, ◌^◌, List, [], ◌∷◌, ◌++◌, length, take, true, refl, sym, ap, subst, ◌∙◌, arith, append-nil, append_assoc}
use Rattle.std.specs.Prelude.{Ok, Err, Some, None}
use Rattle.std.specs.declared.result.Result.{Result}
use Rattle.std.specs.declared.option.Option.{Option}
use Rattle.dur_base.specs.declared.fact.Fact.{Fact}
use Rattle.dur_capture.specs.declared.record.Record.{Record}
use Rattle.dur_outside.specs.declared.values.FileId.{FileId}
use Rattle.dur_outside.specs.declared.values.FileId.TheVariants.{Zero, One}
use Rattle.dur_outside.specs.World.{Image, World, Leaves}
use Rattle.dur_outside.proofs.Runs.{weaker}
use Rattle.dur_qos.specs.declared.plan.Plan.{Plan}
use Rattle.dur_view.specs.History.{History, start, next}
use Rattle.dur_view.specs.IsSound.{IsHistory}
use Rattle.dur_view.specs.Persistent.{persistent_view}
use Rattle.dur_view.specs.Stored.{stored, durable_part, is_stored}
use Rattle.dur_journal.specs.Histories.{IsWhole as LacksNothing}
use Rattle.dur_journal.specs.declared.state.Journal.{Journal}
use Rattle.dur_journal.specs.Kept.{Kept, Keeps, KeepsBy, live_in}
use Rattle.dur_journal.specs.Journals.{IsReady, Stands as StandsFor}
use Rattle.dur_qos.specs.Good.{GoodPlan}
use Rattle.dur_journal.proofs.Standing.{stands_keeps}
use Rattle.dur_hub.specs.declared.event.Event.{Event}
use Rattle.dur_hub.specs.declared.event.Event.TheVariants as call
use Rattle.dur_hub.specs.declared.hub.Hub.{Hub}
use Rattle.dur_hub.specs.declared.reply.Ack.{Ack}
use Rattle.dur_hub.specs.declared.reply.SnapFault.TheVariants as fault
use Rattle.dur_hub.specs.GoodRuns.{IsGoodRun}
use Rattle.dur_hub.specs.Handed.{acks_by, acks_in, Covered}
use Rattle.dur_hub.specs.Hubs.{Stands, Adds}
use Rattle.dur_hub.specs.Leases.{after_lease, at_moment}
use Rattle.dur_hub.specs.Legal.{LegalAt, after, Legal, run_after}
use Rattle.dur_hub.specs.Runs.{Run}
use Rattle.dur_hub.proofs.Covers.{counts_steps, law_durable}
use Rattle.dur_hub.proofs.Stored.{durable_is, next_longer}
use Rattle.dur_rerun.specs.Admission.{IsWhole, Brings, Admitted}
use Rattle.dur_rerun.specs.Saying.{wrote}
use Rattle.dur_rerun.specs.declared.rerun.replays.Replay.{Replay}
use Rattle.dur_rerun.specs.Rerun.Opening.{IsOpening, IsOver}
use Rattle.dur_rerun.specs.Rerun.Courses.{Receives, IsMade, place_at, answered_at}
use Rattle.dur_rerun.specs.Rerun.Crashes.{IsHandling}
use Rattle.dur_rerun.specs.Rerun.Saying.{IsFront, Says}
use Rattle.dur_rerun.specs.Rerun.Steps.{AreSnapshots, IsSnapshot, Leads, Wherever}
use Rattle.dur_rerun.specs.declared.rerun.reply.Cut.{Cut}
use Rattle.dur_rerun.specs.Rerun.Stores.{kept_all, stored_all, IsSettled, IsSettledSome, StoresAll, IsKeeping, IsStored, IsStoring, FailsToStore, MayStore}
use Rattle.dur_rerun.specs.Rerun.Services.{Serves, ServesSome, MayServe, HasReceived, TakenIn, IsAnswered, Answered, CutShort, Handled, EndsAnswering, IsFullAt, StopsAt}
use Rattle.dur_rerun.specs.declared.status.Status.{Status}
use Rattle.dur_rerun.specs.declared.status.Status.TheVariants as status
use Rattle.dur_rerun.specs.Rerun.Replies.{Place, Replies, BeginsReplies, nacks}
use Rattle.dur_rerun.specs.declared.rerun.service.Service.{Service}
use Rattle.dur_rerun.specs.declared.rerun.nacks.Nack.{Nack}
use Rattle.dur_hub.specs.declared.reply.Received.{Received}
use Rattle.dur_rerun.proofs.Cuts.{start_extend, start_persistent, behind_of}
use Rattle.dur_rerun.proofs.Batches.{run_more, legal_last, acks_append}
use Rattle.dur_rerun.proofs.Admitting.{plan_steps}
use Rattle.dur_rerun.proofs.Moments.{IsLater, later_call, later_calls, behind_later}

-- ---- what calls leave as it is

plan_call : (r : Run) (e : Event) → (after r e).plan ≡ r.plan
plan_call r (call.Receive m lost steps cut stopped) = plan_steps (after_lease (at_moment m r) lost) (steps ++ cut)
plan_call r (call.Snapshot m g lost (Ok s)) = refl
plan_call r (call.Snapshot m g lost (Err fault.OutOfMemory)) = refl
plan_call r (call.Snapshot m g lost (Err fault.Unknown)) = refl
plan_call r (call.Snapshot m g lost (Err fault.NotServed)) = refl
plan_call r (call.Snapshot m g lost (Err fault.Already)) = refl
plan_call r (call.Take b) = refl
plan_call r (call.TakeView (Ok given)) = refl
plan_call r (call.TakeView (Err e)) = refl
plan_call r (call.Mark upto) = refl
plan_call r call.Stop = refl
plan_call r call.Leave = refl
plan_call r (call.State s) = refl

pub plan_calls : (r : Run) (es : List Event) → (run_after r es).plan ≡ r.plan
plan_calls r [] = refl
plan_calls r (e ∷ es) = plan_calls (after r e) es ∙ plan_call r e

-- the counts of what was handed out and of what is durable
abbrev pub SameCounts : Run → Run → Type 0
SameCounts r q = (q.taken ≡ r.taken) × (q.durable ≡ r.durable)

receive_counts : (m : ℕ) (facts : List Fact) (r : Run) (e : Event) → IsWhole m facts e → SameCounts r (after r e)
receive_counts m facts r (call.Receive at lost steps cut stopped) whole =
    let s = counts_steps (after_lease (at_moment at r) lost) (steps ++ cut) in (s.taken, s.durable)
receive_counts m facts r (call.Snapshot at g lost answer) whole = absurd whole
receive_counts m facts r (call.Take b) whole = absurd whole
receive_counts m facts r (call.TakeView answer) whole = absurd whole
receive_counts m facts r (call.Mark upto) whole = absurd whole
receive_counts m facts r call.Stop whole = absurd whole
receive_counts m facts r call.Leave whole = absurd whole
receive_counts m facts r (call.State s) whole = absurd whole

-- ---- what is covered

pub covered_front : (h : History) (d : ℕ) (a b : List Ack) → Covered h d (a ++ b) → Covered h d a
covered_front h d [] b all = tt
covered_front h d (x ∷ a) b all = (all.0, covered_front h d a b all.1)

longer : (h : History) (g : List ℕ) (d k : ℕ) → is_stored (start h) g ≡ true → IsHistory h → d ≤ k → k ≤ length (stored h) → next (durable_part h d) g ≤ next (durable_part h k) g
longer h g d k is hist le within = omega (arith, next_longer h g d k is hist le within, ap (λ q. next q g) (durable_is h d), ap (λ q. next q g) (durable_is h k))

pub covered_longer : (h : History) (d k : ℕ) (acks : List Ack) → IsHistory h → d ≤ k → k ≤ length (stored h) → Covered h d acks → Covered h k acks
covered_longer h d k [] hist le within so = tt
covered_longer h d k (a ∷ acks) hist le within so =
    ((λ is. omega (arith, so.0 is, longer h a.writer d k is hist le within)), covered_longer h d k acks hist le within so.1)

-- all that calls acknowledged
pub covered_calls : (begun : Run) (log : List Event) (hub : Hub) (n : ℕ) → IsGoodRun begun → Stands begun log hub → (run_after begun log).durable ≤ n → n ≤ length (stored (run_after begun log).history)
    → Covered (run_after begun log).history n (acks_in log)
covered_calls begun log hub n good stands le within =
    covered_longer (run_after begun log).history (run_after begun log).durable n (acks_in log) stands.at.at.good.history le within (law_durable begun log good stands.legal)

-- ---- a record is received

pub acks_one : (log : List Event) (e : Event) → acks_in (log ++ e ∷ []) ≡ acks_in log ++ acks_by e
acks_one log e = acks_append log (e ∷ []) ∙ ap (λ l. acks_in log ++ l) (append-nil (acks_by e))

pub settled_call : (begun : Run) (log : List Event) (old new : Hub) (position : ℕ) (e : Event) → IsSettled begun log old position → Adds old e new → SameCounts (run_after begun log) (after (run_after begun log) e) → IsSettled begun (log ++ e ∷ []) new position
settled_call begun log old new position e settled adds same =
    let is = run_more begun log (e ∷ []) in
    record {
      stands = adds begun log settled.stands;
      durable = ap (λ (r : Run). r.durable) is ∙ same.1 ∙ settled.durable ∙ sym same.0 ∙ sym (ap (λ (r : Run). r.taken) is);
      counts = settled.counts ∙ ap (λ n. n % 2 ^ 64) (sym same.0 ∙ sym (ap (λ (r : Run). r.taken) is));
    }

-- what is kept stands for a later run
pub keeping_later : (plan : Plan) (k : Kept) (r q : Run) → IsGoodRun r → IsLater r q → q.taken ≡ r.taken → IsKeeping plan k r → IsKeeping plan k q
keeping_later plan k r q good later taken keeping = record {
  behind = behind_later k.history r q later taken good.taken keeping.behind;
  whole = subst (LacksNothing plan) (start_persistent r.history ∙ ap persistent_view (sym (ap start later.grown ∙ start_extend r.history later.es)) ∙ sym (start_persistent q.history)) keeping.whole;
}

-- ---- what is written out changes no file

keeps_by : (plan : Plan) (c : Image) (text : List ℕ) (k : Kept) (l : Result (Option (FileId × ℕ)) (FileId × ℕ)) → KeepsBy plan c l k → KeepsBy plan (wrote text c) l k
keeps_by plan c text k (Err e) keeps = keeps
keeps_by plan c text k (Ok None) keeps = keeps
keeps_by plan c text k (Ok (Some (Zero, g))) keeps = keeps
keeps_by plan c text k (Ok (Some (One, g))) keeps = keeps

pub keeps_wrote : (plan : Plan) (c : Image) (text : List ℕ) (k : Kept) → Keeps plan c k → Keeps plan (wrote text c) k
keeps_wrote plan c text k keeps = keeps_by plan c text k (live_in c) keeps

-- ---- a record is received

pub settled_received : (begun : Run) (log : List Event) (old new : Hub) (position : ℕ) (own : List ℕ) (r : Record) (e : Event) → IsSettled begun log old position → Adds old e new → Brings own r e → IsSettled begun (log ++ e ∷ []) new position
settled_received begun log old new position own r e settled adds brings =
    settled_call begun log old new position e settled adds (receive_counts r.moment brings.heard.facts (run_after begun log) e brings.whole)

legal_received : (begun : Run) (log : List Event) (old new : Hub) (e : Event) → Stands begun log old → Adds old e new → LegalAt (run_after begun log) e
legal_received begun log old new e stands adds = legal_last begun log e (adds begun log stands).legal

keeping_received : (plan : Plan) (k : Kept) (begun : Run) (log : List Event) (old new : Hub) (position : ℕ) (own : List ℕ) (r : Record) (e : Event) → IsSettled begun log old position → Adds old e new → Brings own r e
    → IsKeeping plan k (run_after begun log) → IsKeeping plan k (run_after begun (log ++ e ∷ []))
keeping_received plan k begun log old new position own r e settled adds brings keeping =
    let q = run_after begun log in
    let legal = legal_received begun log old new e settled.stands adds in
    subst (IsKeeping plan k) (sym (run_more begun log (e ∷ [])))
    (keeping_later plan k q (after q e) settled.stands.at.at.good (later_call q e legal) (receive_counts r.moment brings.heard.facts q e brings.whole).0 keeping)

pub some_received : (old new : Hub) (position : ℕ) (own : List ℕ) (r : Record) (e : Event) → IsSettledSome old position → Adds old e new → Brings own r e → IsSettledSome new position
some_received old new position own r e some adds brings = (some.0, some.1 ++ e ∷ [], settled_received some.0 some.1 old new position own r e some.2 adds brings)

pub may_received : {D : Type 0} (journal : Journal D) (old new : Hub) (w : World) (own : List ℕ) (r : Record) (e : Event) → MayStore journal old w → Adds old e new → Brings own r e → MayStore journal new w
may_received journal old new w own r e m adds brings = record {
  plan = m.plan;
  k = m.k;
  begun = m.begun;
  log = m.log ++ e ∷ [];
  stands = m.stands;
  settled = settled_received m.begun m.log old new journal.position own r e m.settled adds brings;
  keeping = keeping_received m.plan m.k m.begun m.log old new journal.position own r e m.settled adds brings m.keeping;
}

-- ---- what a crash leaves

pub received_of : (begun : Run) (log : List Event) (e : Event) (hub : Hub) (position : ℕ) → IsSettled begun (log ++ e ∷ []) hub position → HasReceived begun log e
received_of begun log e hub position settled = record { legal = settled.stands.legal; good = settled.stands.at.at.good; durable = settled.durable }

-- the acknowledgements so far, and those of the record
covered_received : (begun : Run) (log : List Event) (e : Event) (n : ℕ) → IsGoodRun begun → HasReceived begun log e
    → (run_after begun (log ++ e ∷ [])).taken ≤ n → n ≤ length (stored (run_after begun (log ++ e ∷ [])).history) → Covered (run_after begun (log ++ e ∷ [])).history n (acks_in log ++ acks_by e)
covered_received begun log e n good has least most =
    subst (Covered (run_after begun (log ++ e ∷ [])).history n) (acks_one log e)
    (covered_longer (run_after begun (log ++ e ∷ [])).history (run_after begun (log ++ e ∷ [])).durable n (acks_in (log ++ e ∷ [])) has.good.history (omega (arith, has.durable, least)) most
    (law_durable begun (log ++ e ∷ []) good has.legal))

pub storing_handles : (own : List ℕ) (plan : Plan) (epoch : ℕ) (begun : Run) (log : List Event) (replays : List Replay) (r : Record) (e : Event) (old c : Image)
    → IsGoodRun begun → HasReceived begun log e → Brings own r e → IsStoring plan epoch (run_after begun (log ++ e ∷ [])) old c → IsHandling own plan epoch begun log replays r old c
storing_handles own plan epoch begun log replays r e old c good has brings s =
    let q = run_after begun (log ++ e ∷ []) in
    record {
      run = q;
      acks = [];
      made = [];
      answering = record {
        received = record { call = e; brings = brings; legal = legal_last begun log e has.legal };
        run_is = run_more begun log (e ∷ []);
        answer = inl (refl, refl);
      };
      covering = record {
        k = s.k;
        keeps = s.keeps;
        generation = s.later;
        n = s.n;
        within = s.most;
        cut = s.cut;
        covered = subst (Covered q.history s.n) (sym (append-nil (acks_in log)))
            (covered_front q.history s.n (acks_in log) (acks_by e) (covered_received begun log e s.n good has s.least s.most));
      };
      out = (0, s.out ∙ sym (append-nil old.written));
    }

pub front_handles : (own : List ℕ) (plan : Plan) (epoch : ℕ) (k : Kept) (begun : Run) (log : List Event) (replays : List Replay) (r : Record) (e : Event) (text : List ℕ) (old mid c : Image)
    → IsGoodRun begun → HasReceived begun log e → (received : Receives own (place_at begun log replays) r) → received.call ≡ e
    → IsMade own (place_at begun log replays) r received (acks_by e) text
    → mid.written ≡ old.written → Keeps plan mid k → epoch ≤ k.generation → IsKeeping plan k (stored_all (run_after begun (log ++ e ∷ []))) → IsFront text mid c
    → IsHandling own plan epoch begun log replays r old c
front_handles own plan epoch k begun log replays r e text old mid c good has received is made out keeps later keeping front =
    let q = run_after begun (log ++ e ∷ []) in
    let n = length (stored q.history) in
    record {
      run = q;
      acks = acks_by e;
      made = text;
      answering = record { received = received; run_is = run_more begun log (e ∷ []) ∙ ap (after (run_after begun log)) (sym is); answer = made };
      covering = record {
        k = k;
        keeps = subst (λ (i : Image). Keeps plan i k) (sym front.1) (keeps_wrote plan mid (take front.0 text) k keeps);
        generation = later;
        n = n;
        within = omega arith;
        cut = behind_of k.history q.history n q.moment keeping.behind;
        covered = covered_received begun log e n good has has.good.taken (omega arith);
      };
      out = (front.0, ap (λ (i : Image). i.written) front.1 ∙ ap (λ (l : List ℕ). l ++ take front.0 text) out);
    }

-- ---- it is taken in

pub taken_in : {D : Type 0} (tells : Type 0) (begun : Run) (log : List Event) (r : Record) (old new : Service) (first now : Journal D) (hub : Hub) (reply : Received) (asked : List Nack) (w u : World)
    → Admitted old.own r reply asked old.hub hub → Serves begun log old first.position
    → ((b : Run) (l : List Event) → IsSettled b l hub first.position → StoresAll b l new.hub now.position)
    → (tells → (plan : Plan) (k : Kept) (b : Run) (l : List Event) → StandsFor plan k first w → IsSettled b l hub first.position → IsKeeping plan k (run_after b l) → IsStored plan k (run_after b l) now w u)
    → new ≡ record old { hub = new.hub } → TakenIn tells begun log r old first new now reply.acks asked w u
taken_in tells begun log r old new first now hub reply asked w u a serves stores kept same =
    let settled = settled_received begun log old.hub hub first.position old.own r a.call serves.settled a.adds a.brings in
    let s = stores begun (log ++ a.call ∷ []) settled in
    record {
      received = record { call = a.call; brings = a.brings; legal = legal_received begun log old.hub hub a.call serves.settled.stands a.adds };
      acks_are = a.acks;
      asked_are = a.nacks_are;
      has = received_of begun log a.call hub first.position settled;
      more = s.more;
      serves = record { good = serves.good; plan = serves.plan ∙ sym (ap (λ (x : Service). x.plan) same); opens = subst (λ (p : Plan). IsOpening p begun) (sym (ap (λ (x : Service). x.plan) same)) serves.opens; settled = s.settled };
      leads = s.leads;
      silent = s.silent;
      same = same;
      kept = λ told plan k stands keeping.
          kept told plan k begun (log ++ a.call ∷ []) stands settled (keeping_received plan k begun log old.hub hub first.position old.own r a.call serves.settled a.adds a.brings keeping);
    }

pub taken_left : {D : Type 0} (begun : Run) (log : List Event) (r : Record) (old : Service) (first : Journal D) (hub : Hub) (reply : Received) (asked : List Nack) (plan : Plan) (k : Kept) (w u : World)
    → Admitted old.own r reply asked old.hub hub → Serves begun log old first.position → IsKeeping plan k (run_after begun log)
    → ((b : Run) (l : List Event) → IsSettled b l hub first.position → IsKeeping plan k (run_after b l) → Leaves w u (IsStoring plan k.generation (run_after b l) w.now))
    → Leaves w u (IsHandling old.own plan k.generation begun log old.replays.begun.items r w.now)
taken_left begun log r old first hub reply asked plan k w u a serves keeping left =
    let settled = settled_received begun log old.hub hub first.position old.own r a.call serves.settled a.adds a.brings in
    weaker w u _ _ (left begun (log ++ a.call ∷ []) settled (keeping_received plan k begun log old.hub hub first.position old.own r a.call serves.settled a.adds a.brings keeping))
    (λ c s. storing_handles old.own plan k.generation begun log old.replays.begun.items r a.call w.now c serves.good (received_of begun log a.call hub first.position settled) a.brings s)

-- ---- it is answered

-- what holds where the record was taken in holds where it is answered
pub at_answered : {D : Type 0} (P : List ℕ → List Ack → List Nack → Place → Type 0) (tells : Type 0) (begun : Run) (log : List Event) (r : Record) (old mid : Service) (first between : Journal D) (acks : List Ack) (asked : List Nack) (w u : World)
    → (t : TakenIn tells begun log r old first mid between acks asked w u) → P mid.own acks asked (place_at begun ((log ++ t.received.call ∷ []) ++ t.more) mid.replays.begun.items)
    → P old.own (acks_by t.received.call) (nacks t.received.brings.heard.facts) (answered_at (place_at begun log old.replays.begun.items) t.received.call)
at_answered P tells begun log r old mid first between acks asked w u t holds =
    let e = t.received.call in
    let run : run_after begun ((log ++ e ∷ []) ++ t.more) ≡ stored_all (after (run_after begun log) e) = t.leads ∙ ap stored_all (run_more begun log (e ∷ [])) in
    let place : place_at begun ((log ++ e ∷ []) ++ t.more) mid.replays.begun.items ≡ answered_at (place_at begun log old.replays.begun.items) e =
    ap (λ (q : Run). record { run = q; replays = mid.replays.begun.items }) run ∙ ap (λ (s : Service). record { run = stored_all (after (run_after begun log) e); replays = s.replays.begun.items }) t.same in
    subst (λ (p : Place). P old.own (acks_by e) (nacks t.received.brings.heard.facts) p) place
    (subst (λ (l : List Nack). P old.own (acks_by e) l (place_at begun ((log ++ e ∷ []) ++ t.more) mid.replays.begun.items)) t.asked_are
    (subst (λ (l : List Ack). P old.own l asked (place_at begun ((log ++ e ∷ []) ++ t.more) mid.replays.begun.items)) t.acks_are
    (subst (λ (l : List ℕ). P l acks asked (place_at begun ((log ++ e ∷ []) ++ t.more) mid.replays.begun.items)) (ap (λ (s : Service). s.own) t.same) holds)))

legal_behind : (r : Run) (log more : List Event) → Legal r (log ++ more) → Legal (run_after r log) more
legal_behind r [] more legal = legal
legal_behind r (e ∷ log) more legal = legal_behind (after r e) log more legal.1

pub handled : {D : Type 0} (tells : Type 0) (begun : Run) (log : List Event) (r : Record) (old mid new : Service) (first between last : Journal D) (acks : List Ack) (asked : List Nack) (w u v : World)
    → (t : TakenIn tells begun log r old first mid between acks asked w u) → Answered tells begun ((log ++ t.received.call ∷ []) ++ t.more) r.port acks asked mid between new last u v
    → Handled tells begun log r old first new last w v
handled tells begun log r old mid new first between last acks asked w u v t a =
    let e = t.received.call in
    let one = log ++ e ∷ [] in
    let two = one ++ t.more in
    let both : log ++ (e ∷ (t.more ++ a.more)) ≡ two ++ a.more = sym (append_assoc one t.more a.more ∙ append_assoc log (e ∷ []) (t.more ++ a.more)) in
    record {
      more = e ∷ (t.more ++ a.more);
      serves = subst (λ (l : List Event). Serves begun l new last.position) (sym both) a.serves;
      acks = acks;
      text = a.text;
      calls = record {
        received = t.received;
        acks_are = t.acks_are;
        replies = subst (λ (l : List Ack). Replies old.own r.port l (nacks t.received.brings.heard.facts) (answered_at (place_at begun log old.replays.begun.items) e) a.text (place_at begun (log ++ (e ∷ (t.more ++ a.more))) new.replays.begun.items)) (sym t.acks_are)
            (subst (λ (l : List Event). Replies old.own r.port (acks_by e) (nacks t.received.brings.heard.facts) (answered_at (place_at begun log old.replays.begun.items) e) a.text (place_at begun l new.replays.begun.items)) (sym both)
            (at_answered (λ own l n p. Replies own r.port l n p a.text (place_at begun (two ++ a.more) new.replays.begun.items)) tells begun log r old mid first between acks asked w u t a.replies));
      };
      said = ap acks_in both ∙ a.silent ∙ t.silent ∙ acks_one log e ∙ ap (λ (l : List Ack). acks_in log ++ l) (sym t.acks_are);
      own_is = a.own_is ∙ ap (λ (s : Service). s.own) t.same;
      kept = λ told plan k stands keeping.
          let st = t.kept told plan k stands keeping in
          let q = run_after begun two in
          let legal = legal_behind begun two a.more a.serves.settled.stands.legal in
          let is = run_more begun two a.more in
          let now = kept_all k (run_after begun one) in
          let later = run_after begun (log ++ (e ∷ (t.more ++ a.more))) in
          let answered : IsAnswered plan k now later a.text last w v = record {
            stands = a.stands told plan now st.stands;
            keeping = subst (λ (l : List Event). IsKeeping plan now (run_after begun l)) (sym both)
                (subst (IsKeeping plan now) (sym is)
                (keeping_later plan now q (run_after q a.more) t.serves.settled.stands.at.at.good (later_calls q a.more legal) (sym (ap (λ (x : Run). x.taken) is) ∙ a.counts)
                (subst (IsKeeping plan now) (sym t.leads) st.keeping)));
            rises = st.rises;
            out = a.out told ∙ ap (λ (l : List ℕ). l ++ a.text) st.out;
          } in
          subst (λ (x : Run). IsAnswered plan k (kept_all k x) later a.text last w v) (run_more begun log (e ∷ [])) answered;
    }

-- a crash while its text goes out
pub answer_left : {D : Type 0} (tells : Type 0) (begun : Run) (log : List Event) (r : Record) (old mid : Service) (first between : Journal D) (acks : List Ack) (asked : List Nack) (text : List ℕ) (plan : Plan) (k : Kept) (w u v : World)
    → (t : TakenIn tells begun log r old first mid between acks asked w u) → IsGoodRun begun → tells → StandsFor plan k first w → IsKeeping plan k (run_after begun log)
    → IsMade old.own (place_at begun log old.replays.begun.items) r t.received (acks_by t.received.call) text → Leaves u v (IsFront text u.now)
    → Leaves u v (IsHandling old.own plan k.generation begun log old.replays.begun.items r w.now)
answer_left tells begun log r old mid first between acks asked text plan k w u v t good told stands keeping made left =
    let st = t.kept told plan k stands keeping in
    let now = kept_all k (run_after begun (log ++ t.received.call ∷ [])) in
    weaker u v _ _ left (λ c front.
    front_handles old.own plan k.generation now begun log old.replays.begun.items r t.received.call text w.now u.now c good t.has t.received refl made st.out (stands_keeps plan now between u st.stands) st.rises st.keeping front)

-- what was made of its answer
pub made_all : {D : Type 0} (tells : Type 0) (begun : Run) (log : List Event) (r : Record) (old mid new : Service) (first between last : Journal D) (acks : List Ack) (asked : List Nack) (w u v : World)
    → (t : TakenIn tells begun log r old first mid between acks asked w u) → (a : Answered tells begun ((log ++ t.received.call ∷ []) ++ t.more) r.port acks asked mid between new last u v)
    → IsMade old.own (place_at begun log old.replays.begun.items) r t.received (acks_by t.received.call) a.text
made_all tells begun log r old mid new first between last acks asked w u v t a =
    let two = (log ++ t.received.call ∷ []) ++ t.more in
    inr (
      refl,
      inr (
        place_at begun (two ++ a.more) new.replays.begun.items,
        at_answered (λ own l n p. Replies own r.port l n p a.text (place_at begun (two ++ a.more) new.replays.begun.items)) tells begun log r old mid first between acks asked w u t a.replies,
      ),
    )

pub made_some : {D : Type 0} (tells : Type 0) (begun : Run) (log : List Event) (r : Record) (old mid : Service) (first between : Journal D) (acks : List Ack) (asked : List Nack) (text : List ℕ) (w u : World)
    → (t : TakenIn tells begun log r old first mid between acks asked w u) → BeginsReplies mid.own r.port acks asked (place_at begun ((log ++ t.received.call ∷ []) ++ t.more) mid.replays.begun.items) text
    → IsMade old.own (place_at begun log old.replays.begun.items) r t.received (acks_by t.received.call) text
made_some tells begun log r old mid first between acks asked text w u t begins =
    inr (refl, inl (at_answered (λ own l n p. BeginsReplies own r.port l n p text) tells begun log r old mid first between acks asked w u t begins))

-- ---- it may be answered

pub may_store : {D : Type 0} (service : Service) (journal : Journal D) (w : World) → MayServe service journal w → MayStore journal service.hub w
may_store service journal w m = record { plan = m.plan; k = m.k; begun = m.begun; log = m.log; stands = m.stands; settled = m.serves.settled; keeping = m.keeping }

pub ready_taken : {D : Type 0} (tells : Type 0) (r : Record) (old mid : Service) (first between : Journal D) (acks : List Ack) (asked : List Nack) (w u : World) → MayServe old first w
    → ((b : Run) (l : List Event) → Serves b l old first.position → TakenIn tells b l r old first mid between acks asked w u) → tells → IsReady between u
ready_taken tells r old mid first between acks asked w u m taken told =
    let st = (taken m.begun m.log m.serves).kept told m.plan m.k m.stands m.keeping in
    record {
      plan = m.plan;
      k = kept_all m.k (run_after m.begun (m.log ++ (taken m.begun m.log m.serves).received.call ∷ []));
      stands = st.stands;
    }

pub plan_taken : {D : Type 0} (tells : Type 0) (r : Record) (old mid : Service) (first between : Journal D) (acks : List Ack) (asked : List Nack) (w u : World) → ServesSome old first.position
    → ((b : Run) (l : List Event) → Serves b l old first.position → TakenIn tells b l r old first mid between acks asked w u) → GoodPlan old.plan → GoodPlan mid.plan
plan_taken tells r old mid first between acks asked w u some taken good =
    subst GoodPlan (sym (ap (λ (s : Service). s.plan) (taken some.0 some.1 some.2).same)) good

-- ---- what was replied

snapshot_counts : (r : Run) (e : Event) → IsSnapshot e → SameCounts r (after r e)
snapshot_counts r (call.Snapshot m g lost (Ok s)) is = (refl, refl)
snapshot_counts r (call.Snapshot m g lost (Err fault.OutOfMemory)) is = (refl, refl)
snapshot_counts r (call.Snapshot m g lost (Err fault.Unknown)) is = (refl, refl)
snapshot_counts r (call.Snapshot m g lost (Err fault.NotServed)) is = (refl, refl)
snapshot_counts r (call.Snapshot m g lost (Err fault.Already)) is = (refl, refl)
snapshot_counts r (call.Receive m lost steps cut stopped) is = absurd is
snapshot_counts r (call.Take b) is = absurd is
snapshot_counts r (call.TakeView answer) is = absurd is
snapshot_counts r (call.Mark upto) is = absurd is
snapshot_counts r call.Stop is = absurd is
snapshot_counts r call.Leave is = absurd is
snapshot_counts r (call.State s) is = absurd is

snapshot_silent : (e : Event) → IsSnapshot e → acks_by e ≡ []
snapshot_silent (call.Snapshot m g lost answer) is = refl
snapshot_silent (call.Receive m lost steps cut stopped) is = absurd is
snapshot_silent (call.Take b) is = absurd is
snapshot_silent (call.TakeView answer) is = absurd is
snapshot_silent (call.Mark upto) is = absurd is
snapshot_silent call.Stop is = absurd is
snapshot_silent call.Leave is = absurd is
snapshot_silent (call.State s) is = absurd is

snapshots_counts : (r : Run) (es : List Event) → AreSnapshots es → SameCounts r (run_after r es)
snapshots_counts r [] are = (refl, refl)
snapshots_counts r (e ∷ es) are =
    let one = snapshot_counts r e are.0 in
    let more = snapshots_counts (after r e) es are.1 in
    (more.0 ∙ one.0, more.1 ∙ one.1)

snapshots_silent : (es : List Event) → AreSnapshots es → acks_in es ≡ []
snapshots_silent [] are = refl
snapshots_silent (e ∷ es) are = ap (λ (l : List Ack). l ++ acks_in es) (snapshot_silent e are.0) ∙ snapshots_silent es are.1

pub answered_so : {D : Type 0} (tells : Type 0) (begun : Run) (log : List Event) (port : ℕ) (acks : List Ack) (asked : List Nack) (old new : Service) (first now : Journal D) (w v : World) (text : List ℕ) (result : Result (Unit {0}) Cut)
    → Wherever old.plan old.hub (λ start l. Leads start l new.hub new.replays.begun.items (λ place. Replies old.own port acks asked (place_at start l old.replays.begun.items) text place))
    → (tells → Says first now w v text result) → (tells → v.now ≡ wrote text w.now) → Serves begun log old first.position → now ≡ record first { disk = now.disk } → new.own ≡ old.own → new.plan ≡ old.plan
    → Answered tells begun log port acks asked old first new now w v
answered_so tells begun log port acks asked old new first now w v text result all says out serves same own plan =
    let l = all begun log serves.settled.stands (plan_calls begun log ∙ serves.plan) in
    let is = run_more begun log l.more in
    let counts = snapshots_counts (run_after begun log) l.more l.snapshots in
    let taken : (run_after begun (log ++ l.more)).taken ≡ (run_after begun log).taken = ap (λ (r : Run). r.taken) is ∙ counts.0 in
    record {
      text = text;
      more = l.more;
      serves = record {
        good = serves.good;
        plan = serves.plan ∙ sym plan;
        opens = subst (λ (p : Plan). IsOpening p begun) (sym plan) serves.opens;
        settled = record {
          stands = l.stands;
          durable = ap (λ (r : Run). r.durable) is ∙ counts.1 ∙ serves.settled.durable ∙ sym taken;
          counts = ap (λ j. j.position) same ∙ serves.settled.counts ∙ ap (λ n. n % 2 ^ 64) (sym taken);
        };
      };
      counts = taken;
      silent = acks_append log l.more ∙ ap (λ (a : List Ack). acks_in log ++ a) (snapshots_silent l.more l.snapshots) ∙ append-nil (acks_in log);
      replies = l.to;
      own_is = own;
      out = λ told. ap (λ (i : Image). i.written) (out told);
      left = λ told. (says told).run;
      stands = λ told plan' k stands. (says told).stands plan' k stands;
    }

pub cut_so : {D : Type 0} (tells : Type 0) (begun : Run) (log : List Event) (port : ℕ) (acks : List Ack) (asked : List Nack) (old : Service) (first now : Journal D) (w v : World) (text : List ℕ) (result : Result (Unit {0}) Cut)
    → Wherever old.plan old.hub (λ start l. BeginsReplies old.own port acks asked (place_at start l old.replays.begun.items) text) → (tells → Says first now w v text result) → Serves begun log old first.position
    → CutShort tells old.own port acks asked (place_at begun log old.replays.begun.items) w v
cut_so tells begun log port acks asked old first now w v text result begins says serves = record {
  text = text;
  begins = begins begun log serves.settled.stands (plan_calls begun log ∙ serves.plan);
  left = λ told. (says told).run;
}

-- ---- why nothing more could be stored

stops_by : (own : List ℕ) (plan : Plan) (before : Place) (r : Record) (s : Status) → IsFullAt own plan before r s → StopsAt own plan before r s
stops_by own plan before r status.Done full = tt
stops_by own plan before r status.Usage full = tt
stops_by own plan before r status.OutOfMemory full = tt
stops_by own plan before r (status.Input place why) full = tt
stops_by own plan before r status.ReadFault full = tt
stops_by own plan before r status.WriteFault full = tt
stops_by own plan before r status.DiskFault full = tt
stops_by own plan before r (status.Plan line kind) full = tt
stops_by own plan before r (status.NotAJournal file place) full = tt
stops_by own plan before r (status.PlanDiffers name) full = tt
stops_by own plan before r (status.Full size) full = full
stops_by own plan before r status.Worn full = full
stops_by own plan before r status.TooMany full = tt

-- a record that was received
pub stops_storing : {D : Type 0} (begun : Run) (log : List Event) (r : Record) (old : Service) (first : Journal D) (hub : Hub) (reply : Received) (asked : List Nack) (plan : Plan) (k : Kept) (s : Status)
    → Admitted old.own r reply asked old.hub hub → Serves begun log old first.position → IsKeeping plan k (run_after begun log)
    → ((b : Run) (l : List Event) → IsSettled b l hub first.position → IsKeeping plan k (run_after b l) → FailsToStore plan (run_after b l) s)
    → StopsAt old.own plan (place_at begun log old.replays.begun.items) r s
stops_storing begun log r old first hub reply asked plan k s a serves keeping fails =
    let settled = settled_received begun log old.hub hub first.position old.own r a.call serves.settled a.adds a.brings in
    let here = fails begun (log ++ a.call ∷ []) settled (keeping_received plan k begun log old.hub hub first.position old.own r a.call serves.settled a.adds a.brings keeping) in
    stops_by old.own plan (place_at begun log old.replays.begun.items) r s (record {
      received = record { call = a.call; brings = a.brings; legal = legal_received begun log old.hub hub a.call serves.settled.stands a.adds };
      fails = subst (λ (q : Run). FailsToStore plan q s) (run_more begun log (a.call ∷ [])) here;
    })

-- and one that was not answered in full
pub stops_answering : (own : List ℕ) (plan : Plan) (before : Place) (r : Record) (s : Status) → EndsAnswering s → StopsAt own plan before r s
stops_answering own plan before r status.WriteFault ends = tt
stops_answering own plan before r status.OutOfMemory ends = tt
stops_answering own plan before r status.Done ends = absurd ends
stops_answering own plan before r status.Usage ends = absurd ends
stops_answering own plan before r (status.Input place why) ends = absurd ends
stops_answering own plan before r status.ReadFault ends = absurd ends
stops_answering own plan before r status.DiskFault ends = absurd ends
stops_answering own plan before r (status.Plan line kind) ends = absurd ends
stops_answering own plan before r (status.NotAJournal file place) ends = absurd ends
stops_answering own plan before r (status.PlanDiffers name) ends = absurd ends
stops_answering own plan before r (status.Full size) ends = absurd ends
stops_answering own plan before r status.Worn ends = absurd ends
stops_answering own plan before r status.TooMany ends = absurd ends

-- the hub of a service stays over its plan
pub taken_over : {D : Type 0} (tells : Type 0) (r : Record) (old mid : Service) (first between : Journal D) (acks : List Ack) (asked : List Nack) (w u : World) → ServesSome old first.position
    → ((begun : Run) (log : List Event) → Serves begun log old first.position → TakenIn tells begun log r old first mid between acks asked w u) → IsOver mid.plan mid.hub
taken_over tells r old mid first between acks asked w u some so =
    let t = so some.0 some.1 some.2 in
    record { begun = some.0; log = (some.1 ++ t.received.call ∷ []) ++ t.more; opens = t.serves.opens; stands = t.serves.settled.stands }

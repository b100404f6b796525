-- One more call.
use Rattle.std.proofs.Common.{◌≡◌, ℕ, ◌+◌, ◌-◌, ◌≤◌, List, [], ◌∷◌, ◌++◌, length, take, drop, refl, ap, subst, ◌∙◌, sym, true}
use Rattle.std.specs.Prelude.{◌%◌, ◌^◌, Ok, Err}
use Rattle.std.proofs.lemmas.List.{take_all}
use Rattle.std.proofs.Common.{arith, length-drop}
use Rattle.dur_base.specs.declared.entry.Entry.{Entry}
use Rattle.dur_base.specs.declared.memory.OutOfMemory.{OutOfMemory}
use Rattle.dur_view.specs.History.{History, moment}
use Rattle.dur_view.specs.View.{view}
use Rattle.dur_view.specs.Persistent.{persistent}
use Rattle.dur_view.specs.IsSound.{IsHistory}
use Rattle.dur_view.specs.declared.change.Batch.{Batch}
use Rattle.dur_view.specs.declared.data.View.{View}
use Rattle.dur_store.specs.Keeps.{Keeps}
use Rattle.dur_hub.specs.declared.event.Event.{Event}
use Rattle.dur_hub.specs.declared.event.Event.TheVariants as call
use Rattle.dur_hub.specs.declared.hub.Hub.{Hub}
use Rattle.dur_hub.specs.declared.line.Line.{Line}
use Rattle.dur_hub.specs.declared.queue.Queue.{Queue}
use Rattle.dur_view.specs.Stored.{stored}
use Rattle.dur_hub.specs.Runs.{Writer, Run}
use Rattle.dur_hub.specs.Legal.{LegalAt, after, Legal, run_after, IsBatch, with_taken, named}
use Rattle.dur_qos.specs.declared.plan.Plan.{Plan}
use Rattle.dur_hub.specs.Queues.{Queued, TakenAll}
use Rattle.dur_hub.specs.Places.{guids_of, found, IsIndex}
use Rattle.dur_hub.specs.Lines.{LinesFit}
use Rattle.dur_hub.specs.GoodRuns.{Apart, IsGoodRun}
use Rattle.dur_hub.specs.Hubs.{HubAt, Stands, Adds}
use Rattle.dur_hub.proofs.GoodCalls.{good_call}

run_snoc : (r : Run) (es : List Event) (e : Event)
    → run_after r (es ++ e ∷ []) ≡ after (run_after r es) e
run_snoc r [] e = refl
run_snoc r (x ∷ es) e = run_snoc (after r x) es e

calls_snoc : (r : Run) (es : List Event) (e : Event) → Legal r es → LegalAt (run_after r es) e
    → Legal r (es ++ e ∷ [])
calls_snoc r [] e so one = (one, tt)
calls_snoc r (x ∷ es) e so one = (so.0, calls_snoc (after r x) es e so.1 one)

-- A call that is one legal event wherever the hub stands is so after every list that it stands for.
pub one_call : (old new : Hub) (e : Event)
    → ((r : Run) → HubAt old r → LegalAt r e × HubAt new (after r e)) → Adds old e new
one_call old new e one start log st =
    let a = one (run_after start log) st.at in
    record {
      legal = calls_snoc start log e st.legal a.0;
      at = subst (λ r. HubAt new r) (sym (run_snoc start log e)) a.1;
    }

pub stops : (old : Hub) → Adds old call.Stop (record old { stopped = true })
stops old = one_call old (record old { stopped = true }) call.Stop (λ r here. (
  tt,
  record {
    at = record {
      ledger = here.at.ledger;
      lines = here.at.lines;
      good = good_call r call.Stop here.at.good tt;
    };
    plan = here.plan;
    index = here.index;
    places = here.places;
    moment = here.moment;
    begun = here.begun;
    due = here.due;
    given = here.given;
    leaving = here.leaving;
    acks = here.acks;
    refused = here.refused;
    working = here.working;
    stopped = refl;
  },
))

pub leaves : (old : Hub) (working : ℕ) → working ≡ old.working - 1
    → Adds old call.Leave (record old {
      working = working;
    })
leaves old working is = one_call old (record old { working = working }) call.Leave (λ r here. (
  tt,
  record {
    at = record {
      ledger = here.at.ledger;
      lines = here.at.lines;
      good = good_call r call.Leave here.at.good tt;
    };
    plan = here.plan;
    index = here.index;
    places = here.places;
    moment = here.moment;
    begun = here.begun;
    due = here.due;
    given = here.given;
    leaving = here.leaving;
    acks = here.acks;
    refused = here.refused;
    working = is ∙ ap (λ n. n - 1) here.working;
    stopped = here.stopped;
  },
))

pub tells_state : (hub : Hub)
    → Adds hub (call.State (record { working = hub.working; stopped = hub.stopped })) hub
tells_state hub =
    one_call hub hub (call.State (record { working = hub.working; stopped = hub.stopped }))
    (λ r here. ((here.working, here.stopped), here))

abbrev pub with_queue : Hub → Queue → Hub
with_queue hub q = record hub { ledger = record hub.ledger { queue = q } }

-- entries were taken from the queue
taken_at : (old : Hub) (q : Queue) (r : Run) (n : ℕ) (e : Event) (b : Batch) → HubAt old r
    → LegalAt r e → after r e ≡ with_taken r b
    → Queued q (r.taken + length b.entries) r.durable (stored r.history)
    → HubAt (with_queue old q) (after r e)
taken_at old q r n e b here legal is queued = subst (λ k. HubAt (with_queue old q) k) (sym is) (
    record {
      at = record {
        ledger = record {
          keeps = here.at.ledger.keeps;
          queued = queued;
          entries = here.at.ledger.entries;
        };
        lines = here.at.lines;
        good = subst (λ k. IsGoodRun k) is (good_call r e here.at.good legal);
      };
      plan = here.plan;
      index = here.index;
      places = here.places;
      moment = here.moment;
      begun = here.begun;
      due = here.due;
      given = here.given;
      leaving = here.leaving;
      acks = here.acks;
      refused = here.refused;
      working = here.working;
      stopped = here.stopped;
    }
    )

pub takes : (old : Hub) (q : Queue) (b : Batch)
    → ((t d : ℕ) (es : List Entry) → Queued old.ledger.queue t d es → b.from ≡ t % 2 ^ 64)
    → ((t d : ℕ) (es : List Entry) → Queued old.ledger.queue t d es → b.entries ≡ take 4096 (drop t es))
    → ((t d : ℕ) (es : List Entry) → Queued old.ledger.queue t d es → Queued q (t + length b.entries) d es)
    → Adds old (call.Take b) (with_queue old q)
takes old q b from entries queued = one_call old (with_queue old q) (call.Take b) (λ r here.
    let so = here.at.ledger.queued in
    let es : List Entry = stored r.history in
    let legal : IsBatch r 4096 b = record {
      from = from r.taken r.durable es so;
      entries = entries r.taken r.durable es so;
    } in
    (legal, taken_at old q r 4096 (call.Take b) b here legal refl (queued r.taken r.durable es so)))

-- what a view asks of the store
pub may_view : (hub : Hub) (start : Run) (log : List Event) → Stands start log hub
    → (h : History) × Keeps hub.ledger.store h × IsHistory h × (moment h ≤ hub.moment)
may_view hub start log st =
    let here = st.at in
    let r : Run = run_after start log in
    (r.history, here.at.ledger.keeps, here.at.good.history, subst (λ k. moment r.history ≤ k) (sym here.moment) here.at.good.early)

-- all of them, with the view after them
pub takes_all : (old : Hub) (q : Queue) (b : Batch) (v : View)
    → ((t d : ℕ) (es : List Entry) → Queued old.ledger.queue t d es → TakenAll old.ledger.queue q b t d es)
    → ((h : History) → Keeps old.ledger.store h → v ≡ view (persistent h) old.moment)
    → Adds old (call.TakeView (Ok (b, v))) (with_queue old q)
takes_all old q b v taken viewed =
    one_call old (with_queue old q) (call.TakeView (Ok (b, v))) (λ r here.
    let es : List Entry = stored r.history in
    let all = taken r.taken r.durable es here.at.ledger.queued in
    let batch : IsBatch r (length es) b = record {
      from = all.from;
      entries =
          all.entries
          ∙ sym (take_all (length es) (drop r.taken es) (omega (arith, length-drop r.taken es)));
    } in
    let seen : v ≡ view (persistent r.history) r.moment =
    viewed r.history here.at.ledger.keeps ∙ ap (view (persistent r.history)) here.moment in
    ((batch, seen), taken_at old q r (length es) (call.TakeView (Ok (b, v))) b here (batch, seen) refl all.after))

pub takes_none : (hub : Hub) (e : OutOfMemory) → Adds hub (call.TakeView (Err e)) hub
takes_none hub e = one_call hub hub (call.TakeView (Err e)) (λ r here. (tt, here))

-- what was stored was marked
pub marks : (old new : Hub) (upto count : ℕ) (ls ls' : List Line) → ls ≡ old.lines.items
    → new.lines.items ≡ ls'
    → ((plan : Plan) (h : History) (t d : ℕ) (ws : List Writer) → Queued old.ledger.queue t d (stored h) → d + count ≤ t → Apart ws → IsIndex (found old.index) (guids_of ws) → LinesFit plan h d ls ws → Queued new.ledger.queue t (d + count) (stored h) × LinesFit plan h (d + count) ls' ws)
    → ((d : ℕ) → old.ledger.queue.durable ≡ d % 2 ^ 64 → d + count ≡ named d upto)
    → new ≡ record old {
      ledger = record old.ledger { queue = new.ledger.queue };
      lines = new.lines;
    }
    → (start : Run) (log : List Event) → Stands start log old
    → LegalAt (run_after start log) (call.Mark upto) → Stands start (log ++ call.Mark upto ∷ []) new
marks old new upto count ls ls' lines lines' pass count_is is start log st legal =
    let r : Run = run_after start log in
    let here = st.at in
    let q = here.at.ledger.queued in
    let n : r.durable + count ≡ named r.durable upto = count_is r.durable q.lined.durable in
    let both =
    pass r.plan r.history r.taken r.durable r.writers q (subst (λ k. k ≤ r.taken) (sym n) legal)
    here.at.good.apart here.index (subst (λ l. LinesFit r.plan r.history r.durable l r.writers) (sym lines) here.at.lines) in
    let moved : Hub = record old {
      ledger = record old.ledger { queue = new.ledger.queue };
      lines = new.lines;
    } in
    let at : HubAt moved (after r (call.Mark upto)) = record {
      at = record {
        ledger = record {
          keeps = here.at.ledger.keeps;
          queued = subst (λ k. Queued new.ledger.queue r.taken k (stored r.history)) n both.0;
          entries = here.at.ledger.entries;
        };
        lines =
            subst (λ l. LinesFit r.plan r.history (named r.durable upto) l r.writers) (sym lines')
            (subst (λ k. LinesFit r.plan r.history k ls' r.writers) n both.1);
        good = good_call r (call.Mark upto) here.at.good legal;
      };
      plan = here.plan;
      index = here.index;
      places = here.places;
      moment = here.moment;
      begun = here.begun;
      due = here.due;
      given = here.given;
      leaving = here.leaving;
      acks = here.acks;
      refused = here.refused;
      working = here.working;
      stopped = here.stopped;
    } in
    record {
      legal = calls_snoc start log (call.Mark upto) st.legal legal;
      at =
          subst (λ k. HubAt k (run_after start (log ++ call.Mark upto ∷ []))) (sym is)
          (subst (λ k. HubAt moved k) (sym (run_snoc start log (call.Mark upto))) at);
    }

-- A good run stays good over each legal call.
use Rattle.std.proofs.Common.{◌≡◌, ℕ, zero, suc, ◌≤◌, List, [], ◌∷◌, ◌++◌, length, take, drop, map, refl, ap, subst, ◌∙◌, sym, Bool, true, false, cond, Option, Some, None, arith}
use Rattle.std.specs.Prelude.{filter, is_some, Ok, Err, unwrap_or, slice_get}
use Rattle.dur_view.specs.Past.{no_topic}
use Rattle.std.proofs.lemmas.List.{length-take}
use Rattle.std.proofs.Common.{length-drop}
use Rattle.dur_base.specs.declared.entry.Entry.TheVariants.{Lost}
use Rattle.dur_view.specs.Identities.{Guid}
use Rattle.dur_view.specs.declared.data.KeptWriter.{KeptWriter}
use Rattle.dur_view.specs.declared.data.View.{View}
use Rattle.dur_view.specs.declared.change.Batch.{Batch}
use Rattle.dur_view.specs.Words.{is_same, stands, writer_line, topic_of}
use Rattle.dur_view.specs.History.{History, ◌▸◌, ◌+>◌, start, moment, next}
use Rattle.dur_view.specs.IsSound.{IsHistory}
use Rattle.rtps_message.specs.Facts.{IsGoodFact, AreGood}
use Rattle.dur_hub.specs.declared.event.Step.{Step}
use Rattle.dur_hub.specs.declared.event.Event.{Event}
use Rattle.dur_hub.specs.declared.event.Event.TheVariants as call
use Rattle.dur_hub.specs.declared.reply.SnapFault.TheVariants as fault
use Rattle.dur_hub.specs.Telling.{topic_in, with_entries}
use Rattle.dur_view.specs.Stored.{stored}
use Rattle.dur_hub.specs.Runs.{Writer, Run}
use Rattle.dur_hub.specs.Leases.{is_overdue, is_left_behind, leavers, after_lease, at_moment}
use Rattle.dur_hub.specs.LeftBehind.{AllStand}
use Rattle.dur_hub.specs.Steps.{speaker, heard_of, told_by, HearsBy, LegalStep, spoken, after_step, LegalSteps, after_steps}
use Rattle.dur_hub.specs.Legal.{facts_of, IsBatch, with_taken, LegalAt, after, Legal, run_after}
use Rattle.dur_hub.specs.GoodRuns.{MayTake, Tells, GoodWriter, GoodWriters, IsGoodRun}
use Rattle.dur_hub.proofs.Guids.{same_true, start_extend}
use Rattle.dur_hub.proofs.Stored.{grown_by, longer_grown}
use Rattle.dur_hub.proofs.Stories.{next_fact, tells_fact, tells_entries, tells_end, next_end, handles_well}
use Rattle.dur_hub.proofs.Speakers.{speaker_good, with_good, with_none, apart_with, all_good, leased_good, leased_apart}

-- ---- the lease step

-- what losing these gives
pub record LostWell (h : History) (m : ℕ) (gs : List Guid) : Type 0 where
  pub history : IsHistory (h +> map (Lost m) gs)
  pub early : moment (h +> map (Lost m) gs) ≤ m
  pub stay : (u : Guid) → next (h +> map (Lost m) gs) u ≡ next h u

pub lost_well : (h : History) (m : ℕ) (gs : List Guid) → IsHistory h → moment h ≤ m
    → AllStand (start h) gs → LostWell h m gs
lost_well h m [] hist early there = record { history = hist; early = early; stay = λ u. refl }
lost_well h m (g ∷ gs) hist early there =
    let rest =
    lost_well (h ▸ Lost m g) m gs
    (hist, record { known = there.0; later = early; number = tt; short = tt; good = tt })
    (omega arith) there.1 in
    record { history = rest.history; early = rest.early; stay = rest.stay }

pub take_stand : (v : View) (n : ℕ) (gs : List Guid) → AllStand v gs → AllStand v (take n gs)
take_stand v zero gs there = tt
take_stand v (suc n) [] there = tt
take_stand v (suc n) (g ∷ gs) there = (there.0, take_stand v n gs there.1)

overdue_stand : (h : History) (r : Run) (m : ℕ) (ws : List Writer) → GoodWriters h r.plan ws
    → AllStand (start h) (map (λ w. w.line.guid) (filter (is_overdue m) ws))
overdue_stand h r m [] good = tt
overdue_stand h r m (w ∷ ws) good =
    overdue_by (is_overdue m w) (overdue_stand h r m ws good.1) where
      overdue_by : (b : Bool) → AllStand (start h) (map (λ w. w.line.guid) (filter (is_overdue m) ws))
          → AllStand (start h) (map (λ (w : Writer). w.line.guid) (cond b (w ∷ filter (is_overdue m) ws) (filter (is_overdue m) ws)))
      overdue_by true more = (good.0.stands, more)
      overdue_by false more = more

-- a line of a list stands in it
stands_more : (ws : List KeptWriter) (x : KeptWriter) (g : Guid) → is_some (writer_line ws g) ≡ true
    → is_some (writer_line (x ∷ ws) g) ≡ true
stands_more ws x g so = more_by (is_same x.guid g) where
  more_by : (b : Bool) → is_some (cond b (Some x) (writer_line ws g)) ≡ true
  more_by true = refl
  more_by false = so

module _ (v : View) (test : KeptWriter → Bool) where
  left_stand : (ws : List KeptWriter)
      → ((g : Guid) → is_some (writer_line ws g) ≡ true → stands v g ≡ true)
      → AllStand v (map (λ line. line.guid) (filter test ws))
  left_stand [] into = tt
  left_stand (w ∷ ws) into =
      left_by (test w) (left_stand ws (λ g so. into g (stands_more ws w g so))) where
        left_by : (b : Bool) → AllStand v (map (λ line. line.guid) (filter test ws))
            → AllStand v (map (λ (line : KeptWriter). line.guid) (cond b (w ∷ filter test ws) (filter test ws)))
        left_by true more =
            (into w.guid (ap (λ b. is_some (cond b (Some w) (writer_line ws w.guid))) (same_true w.guid w.guid refl)), more)
        left_by false more = more

pub leavers_stand : (r : Run) → GoodWriters r.history r.plan r.writers
    → AllStand (start r.history) (leavers r)
leavers_stand r good = leavers_by r.begun where
  leavers_by : (b : Bool)
      → AllStand (start r.history) (cond b (map (λ (w : Writer). w.line.guid) (filter (is_overdue r.moment) r.writers)) (map (λ (line : KeptWriter). line.guid) (filter (is_left_behind r) (start r.history).writers)))
  leavers_by true = overdue_stand r.history r r.moment r.writers good
  leavers_by false =
      left_stand (start r.history) (is_left_behind r) (start r.history).writers (λ g so. so)

pub good_lease : (r : Run) (n : ℕ) → IsGoodRun r → IsGoodRun (after_lease r n)
good_lease r n good =
    let gone : List Guid = take n (leavers r) in
    let lost =
    lost_well r.history r.moment gone good.history good.early
    (take_stand (start r.history) n (leavers r) (leavers_stand r good.writers)) in
    let h' : History = r.history +> map (Lost r.moment) gone in
    record {
      history = lost.history;
      early = lost.early;
      writers =
          leased_good h' r.plan r.begun r.moment n r.writers
          (all_good r.history h' r.plan r.writers good.writers (start_extend r.history (map (Lost r.moment) gone)) lost.stay);
      apart = leased_apart r.begun r.moment n r.writers good.apart;
      durable = good.durable;
      taken =
          longer_grown r.history h' r.taken (grown_by r.history (map (Lost r.moment) gone))
          good.taken;
    }

-- ---- facts

pub good_step : (r : Run) (s : Step) → IsGoodRun r → IsGoodFact s.fact → LegalStep r s
    → IsGoodRun (after_step r s)
good_step r s good fine legal = step_by (speaker r s.fact) refl legal where
  step_by : (o : Option Writer) → speaker r s.fact ≡ o → HearsBy r s o → IsGoodRun (after_step r s)
  step_by None none is = record {
    history = subst (λ es. IsHistory (r.history +> es)) (sym is.0) good.history;
    early = subst (λ es. moment (r.history +> es) ≤ r.moment) (sym is.0) good.early;
    writers =
        subst (λ ws. GoodWriters (r.history +> s.entries) r.plan ws)
        (sym (with_none r.plan s.fact (spoken r s) r.writers none))
        (subst (λ es. GoodWriters (r.history +> es) r.plan r.writers) (sym is.0) good.writers);
    apart = apart_with r.plan s.fact (spoken r s) r.writers (λ w. refl) good.apart;
    durable = good.durable;
    taken =
        longer_grown r.history (r.history +> s.entries) r.taken (grown_by r.history s.entries)
        good.taken;
  }
  step_by (Some w) found hears =
      let g : GoodWriter r.history r.plan w =
      speaker_good r.plan s.fact r.history r.writers w good.writers found in
      let tells : Tells (MayTake (start r.history) w.line.guid) (heard_of r w s.fact) =
      tells_fact (start r.history) w.line.guid (topic_in r.plan w.line.topic).shape r.moment
      s.fact w.story fine g.shape g.samples in
      let well =
      handles_well (heard_of r w s.fact) r.history w.line.guid r.moment s.entries s.end
      hears.handles good.history good.early g.stands
      (next_fact (topic_in r.plan w.line.topic).shape r.moment s.fact w.story ∙ g.next)
      tells in
      let h' : History = r.history +> s.entries in
      let begun : start h' ≡ start r.history = start_extend r.history s.entries in
      record {
        history = well.history;
        early = well.early;
        writers = with_good r.plan s.fact r.history h' (spoken r s) r.writers w good.writers good.apart found begun well.others record {
          stands = ap (λ v. stands v w.line.guid) begun ∙ g.stands;
          shape =
              subst
              (λ v. (unwrap_or (slice_get v.topics (topic_of v w.line.guid)) no_topic).shape ≡ (topic_in r.plan w.line.topic).shape)
              (sym begun) g.shape;
          next = next_end (with_entries (heard_of r w s.fact) s.entries) s.end ∙ well.same;
          samples = subst (λ v. Tells (MayTake v w.line.guid) (told_by r w s)) (sym begun)
              (tells_end (MayTake (start r.history) w.line.guid) (with_entries (heard_of r w s.fact) s.entries) s.end (tells_entries (MayTake (start r.history) w.line.guid) (heard_of r w s.fact) s.entries tells));
        };
        apart = apart_with r.plan s.fact (spoken r s) r.writers (λ v. refl) good.apart;
        durable = good.durable;
        taken = longer_grown r.history h' r.taken (grown_by r.history s.entries) good.taken;
      }

pub good_steps : (r : Run) (ss : List Step) → IsGoodRun r → AreGood (facts_of ss) → LegalSteps r ss
    → IsGoodRun (after_steps r ss)
good_steps r [] good fine legal = good
good_steps r (s ∷ ss) good fine legal =
    good_steps (after_step r s) ss (good_step r s good fine.0 legal.0) fine.1 legal.1

-- ---- calls

pub good_moment : (r : Run) (m : ℕ) → IsGoodRun r → IsGoodRun (at_moment m r)
good_moment r m good = record {
  history = good.history;
  early = omega (arith, good.early);
  writers = good.writers;
  apart = good.apart;
  durable = good.durable;
  taken = good.taken;
}

pub good_taken : (r : Run) (n : ℕ) (b : Batch) → IsGoodRun r → IsBatch r n b
    → IsGoodRun (with_taken r b)
good_taken r n b good is = record {
  history = good.history;
  early = good.early;
  writers = good.writers;
  apart = good.apart;
  durable = omega (arith, good.durable);
  taken =
      omega
      (arith, good.taken, ap length is.entries, length-take n (drop r.taken (stored r.history)), length-drop r.taken (stored r.history));
}

pub good_given : (r : Run) (gs : List Guid) → IsGoodRun r → IsGoodRun (record r { given = gs })
good_given r gs good = record {
  history = good.history;
  early = good.early;
  writers = good.writers;
  apart = good.apart;
  durable = good.durable;
  taken = good.taken;
}

pub good_call : (r : Run) (e : Event) → IsGoodRun r → LegalAt r e → IsGoodRun (after r e)
good_call r (call.Receive m lost steps cut stopped) good legal =
    good_steps (after_lease (at_moment m r) lost) (steps ++ cut)
    (good_lease (at_moment m r) lost (good_moment r m good)) legal.good legal.legal
good_call r (call.Snapshot m g lost (Ok s)) good legal =
    good_given (after_lease (at_moment m r) lost) (r.given ++ g ∷ [])
    (good_lease (at_moment m r) lost (good_moment r m good))
good_call r (call.Snapshot m g lost (Err fault.OutOfMemory)) good legal =
    good_lease (at_moment m r) lost (good_moment r m good)
good_call r (call.Snapshot m g lost (Err fault.Unknown)) good legal = good
good_call r (call.Snapshot m g lost (Err fault.NotServed)) good legal = good
good_call r (call.Snapshot m g lost (Err fault.Already)) good legal = good
good_call r (call.Take b) good legal = good_taken r 4096 b good legal
good_call r (call.TakeView (Ok given)) good legal =
    good_taken r (length (stored r.history)) given.0 good legal.0
good_call r (call.TakeView (Err e)) good legal = good
good_call r (call.Mark upto) good legal = record {
  history = good.history;
  early = good.early;
  writers = good.writers;
  apart = good.apart;
  durable = legal;
  taken = good.taken;
}
good_call r call.Stop good legal = record {
  history = good.history;
  early = good.early;
  writers = good.writers;
  apart = good.apart;
  durable = good.durable;
  taken = good.taken;
}
good_call r call.Leave good legal = record {
  history = good.history;
  early = good.early;
  writers = good.writers;
  apart = good.apart;
  durable = good.durable;
  taken = good.taken;
}
good_call r (call.State s) good legal = good

-- every legal list of calls keeps a run good
pub law_good : (r : Run) (es : List Event) → IsGoodRun r → Legal r es → IsGoodRun (run_after r es)
law_good r [] good legal = good
law_good r (e ∷ es) good legal = law_good (after r e) es (good_call r e good legal.0) legal.1

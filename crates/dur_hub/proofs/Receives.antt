-- A `receive` is one legal event.
use Rattle.std.proofs.Common.{◌≡◌, inl, inr, ℕ, ◌+◌, ◌≤◌, List, [], ◌∷◌, ◌++◌, length, take, map, refl, ap, subst, ◌∙◌, sym, Bool, true, false, cond, Option, ◌||◌, arith, eq-eqb}
use Rattle.std.specs.List.{list_any}
use Rattle.std.specs.Prelude.{filter, max, ◌==◌, ◌%◌, ◌^◌}
use Rattle.std.proofs.lemmas.Bool.{ne_eqb}
use Rattle.dur_base.specs.declared.entry.Entry.TheVariants.{Lost}
use Rattle.dur_base.specs.declared.fact.Fact.{Fact}
use Rattle.dur_qos.specs.declared.plan.Plan.{Plan}
use Rattle.dur_view.specs.declared.data.View.{View}
use Rattle.dur_view.specs.Identities.{Guid}
use Rattle.dur_view.specs.History.{History, start}
use Rattle.rtps_message.specs.Facts.{AreGood}
use Rattle.dur_hub.specs.declared.event.Event.{Event}
use Rattle.dur_hub.specs.declared.event.Event.TheVariants as call
use Rattle.dur_hub.specs.declared.event.Step.{Step}
use Rattle.dur_hub.specs.declared.hub.Hub.{Hub}
use Rattle.dur_hub.specs.declared.ledger.Ledger.{Ledger}
use Rattle.dur_hub.specs.declared.line.Line.{Line}
use Rattle.dur_hub.specs.declared.notes.Notes.{Notes}
use Rattle.dur_hub.specs.declared.receiving.Heard.{Heard}
use Rattle.dur_hub.specs.declared.reply.Received.{Received}
use Rattle.dur_hub.specs.Runs.{Writer, Run}
use Rattle.dur_hub.specs.Leases.{is_overdue, leavers, lose, heard_now, after_lease, at_moment}
use Rattle.dur_hub.specs.LeftBehind.{AreLost}
use Rattle.dur_hub.specs.Replays.{PlacesFit}
use Rattle.dur_hub.specs.Steps.{after_step, after_steps}
use Rattle.dur_hub.specs.Handed.{acks_of}
use Rattle.dur_hub.specs.Legal.{IsLeft, facts_of}
use Rattle.dur_hub.specs.Lines.{LineFits, Pairs, LinesFit}
use Rattle.dur_hub.specs.Hearings.{refusals_of, HearsAll}
use Rattle.dur_hub.specs.Hubs.{StandsAt, Adds}
use Rattle.dur_hub.specs.Looks.{is_late, StepsLease}
use Rattle.dur_hub.specs.Dues.{is_after, AreDue}
use Rattle.dur_hub.specs.Places.{guids_of, found, IsIndex}
use Rattle.dur_hub.proofs.Lookups.{index_leased, index_steps}
use Rattle.dur_hub.specs.Answers.{TellsReceive, Answers, IsStopped, Begins, AnswersFacts}
use Rattle.dur_hub.proofs.Guids.{start_extend}
use Rattle.dur_hub.proofs.GoodCalls.{good_moment}
use Rattle.dur_hub.proofs.LeftBehind.{leaving_moment}
use Rattle.dur_hub.proofs.Counting.{acks_steps, refused_steps}
use Rattle.dur_hub.proofs.Dues.{lines_due, nobody_overdue}
use Rattle.dur_hub.proofs.Leasing.{guid_of, leavers_begun, stands_leased}
use Rattle.dur_hub.proofs.Going.{moment_steps}
use Rattle.dur_hub.proofs.Calls.{one_call}

-- a writer counts as heard
pub line_heard : (plan : Plan) (h : History) (d now : ℕ) (l : Line) (w : Writer)
    → LineFits plan h d l w → LineFits plan h d (record l { heard = now }) (heard_now now w)
line_heard plan h d now l w fits = record {
  guid = fits.guid;
  shape = fits.shape;
  reader = fits.reader;
  lease = fits.lease;
  stored = fits.stored;
  proxy = fits.proxy;
  heard = refl;
  lost = fits.lost;
  acks = fits.acks;
  durable = fits.durable;
}

pub pairs_heard : (plan : Plan) (h : History) (d now : ℕ) (ls : List Line) (ws : List Writer)
    → Pairs (λ l w. LineFits plan h d l (heard_now now w)) ls ws
    → LinesFit plan h d ls (map (heard_now now) ws)
pairs_heard plan h d now [] [] fit = tt
pairs_heard plan h d now [] (w ∷ ws) fit = fit
pairs_heard plan h d now (l ∷ ls) [] fit = fit
pairs_heard plan h d now (l ∷ ls) (w ∷ ws) fit = (fit.0, pairs_heard plan h d now ls ws fit.1)

-- the answer of the facts
pub answers : (l : Ledger) (ls : List Line) (index : Guid → Option ℕ) (m : ℕ) (facts : List Fact) (notes0 notes : Notes)
    (heard : Heard) (reply : Received) (l' : Ledger) (ls' : List Line)
    → HearsAll l ls index m facts notes0 heard l' ls' notes
    → notes0.acks.items ≡ [] → notes0.refused.items ≡ []
    → (reply.acks ≡ notes.acks.items) × (reply.refused ≡ notes.refused.items)
    × (reply.handled ≡ heard.handled) × (reply.stopped ≡ heard.stopped)
    → Answers l ls index notes0.due m facts reply l' ls' notes.due
answers l ls index m facts notes0 notes heard reply l' ls' so acks0 refused0 same = record {
  steps = so.steps;
  cut = so.cut;
  tells = record {
    rest = so.rest;
    told = so.told;
    left = subst (λ b. IsLeft b so.cut so.rest) (sym same.3) so.left;
    handled = same.2 ∙ so.handled;
    acks = same.0 ∙ so.acks ∙ ap (λ k. k ++ acks_of (so.steps ++ so.cut)) acks0;
    refused = same.1 ∙ so.refused ∙ ap (λ k. k ++ refusals_of (so.steps ++ so.cut)) refused0;
  };
  whole = so.whole;
  holds = so.holds;
  until = so.due;
}

begun_steps : (r : Run) (ss : List Step) → (after_steps r ss).begun ≡ r.begun
begun_steps r [] = refl
begun_steps r (s ∷ ss) = begun_steps (after_step r s) ss

given_steps : (r : Run) (ss : List Step) → (after_steps r ss).given ≡ r.given
given_steps r [] = refl
given_steps r (s ∷ ss) = given_steps (after_step r s) ss

plan_steps : (r : Run) (ss : List Step) → (after_steps r ss).plan ≡ r.plan
plan_steps r [] = refl
plan_steps r (s ∷ ss) = plan_steps (after_step r s) ss

working_steps : (r : Run) (ss : List Step)
    → ((after_steps r ss).working ≡ r.working) × ((after_steps r ss).stopped ≡ r.stopped)
working_steps r [] = (refl, refl)
working_steps r (s ∷ ss) = working_steps (after_step r s) ss

left_nothing : (b : Bool) (cut : List Step) (rest : List Fact) → IsLeft b cut rest → IsLeft b cut []
left_nothing true cut rest left = left
left_nothing false cut rest left = (left.0, refl)

good_front : (fs gs : List Fact) → AreGood (fs ++ gs) → AreGood fs
good_front [] gs good = tt
good_front (f ∷ fs) gs good = (good.0, good_front fs gs good.1)

places_steps : (r : Run) (ss : List Step) → start (after_steps r ss).history ≡ start r.history
places_steps r [] = refl
places_steps r (s ∷ ss) = places_steps (after_step r s) ss ∙ start_extend r.history s.entries

places_same : (p : Plan) (v : View) (p' : Plan) (v' : View) (xs ys : List ℕ) → ys ≡ xs → p' ≡ p
    → v' ≡ v → PlacesFit p v.topics xs → PlacesFit p' v'.topics ys
places_same p v p' v' xs ys same plans views fit =
    subst (λ l. PlacesFit p' v'.topics l) (sym same)
    (subst (λ q. PlacesFit q v'.topics xs) (sym plans) (subst (λ (w : View). PlacesFit p w.topics xs) (sym views) fit))

pub or_true : (b : Bool) → (b || true) ≡ true
or_true true = refl
or_true false = refl

-- what a call leaves as it was
pub record SameCounts (old new : Hub) : Type 0 where
  pub plan : new.plan ≡ old.plan
  pub index : new.index ≡ old.index
  pub places : new.places ≡ old.places
  pub working : new.working ≡ old.working
  pub stopped : new.stopped ≡ old.stopped

lost_done : (done : Bool) (n k : ℕ) → AreLost done n k → (n == k) ≡ done
lost_done true n k is = eq-eqb n k is
lost_done false n k lt = ne_eqb n k (λ e. absurd (omega (arith, e, lt)))

pub lost_most : (done : Bool) (n k : ℕ) → AreLost done n k → n ≤ k
lost_most true n k is = omega (arith, is)
lost_most false n k lt = omega (arith, lt)

-- the lease step of a call
pub begins : (old new : Hub) (m used : ℕ) (done : Bool) (ls ls' : List Line)
    → used ≡ max old.moment m → ls ≡ old.lines.items → new.lines.items ≡ ls'
    → StepsLease old.ledger ls old.leaving.items used old.begun done new.ledger ls' new.leaving.items
    → SameCounts old new → new.moment ≡ used → new.begun ≡ (old.begun || done)
    → new.given ≡ old.given → new.acks ≡ old.acks → new.refused ≡ old.refused
    → ((now : ℕ) → is_after new.due now ≡ list_any (λ line. is_late line now) new.lines.items)
    → Begins old m done new
begins old new m used done ls ls' used_is lines lines2 lease same moment begun given acks refused ends = record {
  count = lease.count;
  holds = λ r here.
      let r1 : Run = at_moment m r in
      let st : StandsAt old.ledger ls r1 = record {
        ledger = here.at.ledger;
        lines =
            subst (λ k. LinesFit r.plan r.history r.durable k r.writers) (sym lines) here.at.lines;
        good = good_moment r m here.at.good;
      } in
      let is : r1.moment ≡ used = sym (used_is ∙ ap (λ n. max n m) here.moment) in
      let b =
      lease.holds r1 st is (sym here.begun) (leaving_moment r m old.leaving.items here.leaving) in
      let n : ℕ = lease.count in
      let r2 : Run = after_lease r1 n in (
        b.0,
        record {
          at = subst (λ k. StandsAt new.ledger k r2) (sym lines2) b.1;
          plan = same.plan ∙ here.plan;
          index =
              subst (λ k. IsIndex (found k) (guids_of r2.writers)) (sym same.index)
              (index_leased (found old.index) r1.begun r1.moment n r1.writers here.index);
          places =
              places_same r.plan (start r.history) r.plan (start r2.history) old.places new.places
              same.places refl
              (start_extend r.history (map (Lost r1.moment) (take n (leavers r1)))) here.places;
          moment = moment ∙ sym is;
          begun =
              begun ∙ ap (λ x. x || done) here.begun
              ∙ ap (λ x. r.begun || x) (sym (lost_done done n (length (leavers r1)) b.0));
          due =
              λ yes1. lines_due r2.plan r2.history r2.durable new.due ls' r2.writers b.1.lines
              (λ now no1. sym (ends now ∙ ap (list_any (λ line. is_late line now)) lines2) ∙ no1);
          given = ap (λ v. v.items) given ∙ here.given;
          leaving = b.2;
          acks = acks ∙ here.acks;
          refused = refused ∙ here.refused;
          working = same.working ∙ here.working;
          stopped = same.stopped ∙ here.stopped;
        },
      );
}

-- the lease step of a call at a moment by which no lease ended
pub begins_quietly : (old : Hub) (m used : ℕ) → used ≡ max old.moment m → old.begun ≡ true
    → is_after old.due used ≡ false → Begins old m true (record old { moment = used })
begins_quietly old m used used_is begun quiet = record {
  count = 0;
  holds = λ r here.
      let r1 : Run = at_moment m r in
      let is : r1.moment ≡ used = sym (used_is ∙ ap (λ n. max n m) here.moment) in
      let all : r.begun ≡ true = sym here.begun ∙ begun in
      let due : AreDue old.due r.writers = here.due all in
      let none : filter (is_overdue r1.moment) r.writers ≡ [] =
      ap (λ k. filter (is_overdue k) r.writers) is ∙ nobody_overdue old.due used r.writers quiet due in
      let gone : length (leavers r1) ≡ 0 =
      ap length (leavers_begun r1 all ∙ ap (map guid_of) none) in
      let st : StandsAt old.ledger old.lines.items (after_lease r1 0) =
      stands_leased old.ledger old.lines.items r1 0 all (good_moment r m here.at.good) here.at.ledger here.at.lines in
      let n0 : (0 == length (leavers r1)) ≡ true = eq-eqb 0 (length (leavers r1)) (sym gone) in
      let went : (after_lease r1 0).begun ≡ true =
      ap (λ b. b || (0 == length (leavers r1))) all in (
        sym gone,
        record {
          at = st;
          plan = here.plan;
          index = index_leased (found old.index) r1.begun r1.moment 0 r1.writers here.index;
          places = here.places;
          moment = sym is;
          begun = begun ∙ sym went;
          due =
              λ yes1. subst
              (λ b. AreDue old.due (cond b (lose r1.moment 0 r.writers) (map (heard_now r1.moment) r.writers)))
              (sym all) due;
          given = here.given;
          leaving = λ no1. absurd (let q = sym went ∙ no1 in cc);
          acks = here.acks;
          refused = here.refused;
          working = here.working;
          stopped = here.stopped;
        },
      );
}

-- the facts of a call
pub answers_facts : (old new : Hub) (facts : List Fact) (reply : Received) (ls ls' : List Line)
    → ls ≡ old.lines.items → new.lines.items ≡ ls'
    → Answers old.ledger ls (found old.index) old.due old.moment facts reply new.ledger ls' new.due
    → SameCounts old new → new.moment ≡ old.moment → new.begun ≡ old.begun → new.given ≡ old.given
    → new.acks ≡ (old.acks + length reply.acks) % 2 ^ 64
    → new.refused ≡ (old.refused + length reply.refused) % 2 ^ 64 → AnswersFacts old facts reply new
answers_facts old new facts reply ls ls' lines lines2 a same moment begun given acks refused = record {
  steps = a.steps;
  cut = a.cut;
  tells = a.tells;
  whole = a.whole;
  holds = λ r here all.
      let ss : List Step = a.steps ++ a.cut in
      let d =
      a.holds r (subst (λ k. StandsAt old.ledger k r) (sym lines) here.at) here.index (sym here.moment) in
      let r3 : Run = after_steps r ss in (
        d.0,
        record {
          at = subst (λ k. StandsAt new.ledger k r3) (sym lines2) d.1;
          plan = same.plan ∙ here.plan ∙ sym (plan_steps r ss);
          index =
              subst (λ k. IsIndex (found k) (guids_of r3.writers)) (sym same.index)
              (index_steps (found old.index) r ss here.index);
          places =
              places_same r.plan (start r.history) r3.plan (start r3.history) old.places new.places
              same.places (plan_steps r ss) (places_steps r ss) here.places;
          moment = moment ∙ here.moment ∙ sym (moment_steps r ss);
          begun = begun ∙ here.begun ∙ sym (begun_steps r ss);
          due =
              λ yes1. a.until r (subst (λ k. StandsAt old.ledger k r) (sym lines) here.at) here.index
              (sym here.moment) (here.due all);
          given = ap (λ v. v.items) given ∙ here.given ∙ sym (given_steps r ss);
          leaving = λ no1. absurd (let q = begun_steps r ss ∙ all in cc);
          acks = omega (arith, acks, here.acks, acks_steps r ss, ap length a.tells.acks);
          refused =
              omega (arith, refused, here.refused, refused_steps r ss, ap length a.tells.refused);
          working = same.working ∙ here.working ∙ sym (working_steps r ss).0;
          stopped = same.stopped ∙ here.stopped ∙ sym (working_steps r ss).1;
        },
      );
}

-- once all are lost the first step is done
pub begun_after : (r : Run) (m n : ℕ) → AreLost true n (length (leavers (at_moment m r)))
    → (after_lease (at_moment m r) n).begun ≡ true
begun_after r m n is =
    ap (λ x. r.begun || x) (lost_done true n (length (leavers (at_moment m r))) is)
    ∙ or_true r.begun

-- all of it
pub receives : (old mid new : Hub) (m : ℕ) (facts : List Fact) (reply : Received) → AreGood facts
    → Begins old m true mid → AnswersFacts mid facts reply new
    → (e : Event) × TellsReceive m facts reply e × Adds old e new
receives old mid new m facts reply fine lease a =
    let ss : List Step = a.steps ++ a.cut in
    let e : Event = call.Receive m lease.count a.steps a.cut reply.stopped in (
      e,
      (refl, refl, a.tells),
      one_call old new e (λ r here.
          let b = lease.holds r here in
          let r2 : Run = after_lease (at_moment m r) lease.count in
          let d = a.holds r2 b.1 (begun_after r m lease.count b.0) in (
            record {
              good = good_front (facts_of ss) a.tells.rest (subst AreGood a.tells.told fine);
              leased = inl b.0;
              legal = d.0;
              whole = a.whole;
              left = left_nothing reply.stopped a.cut a.tells.rest a.tells.left;
            },
            d.1,
          )),
    )

-- there was no memory in the lease step
pub receives_none : (old new : Hub) (m : ℕ) (facts : List Fact) (reply : Received)
    → Begins old m false new → IsStopped reply
    → (e : Event) × TellsReceive m facts reply e × Adds old e new
receives_none old new m facts reply lease same =
    let e : Event = call.Receive m lease.count [] [] reply.stopped in (
      e,
      (
        refl,
        refl,
        record {
          rest = facts;
          told = refl;
          left = subst (λ x. IsLeft x [] facts) (sym same.stopped) tt;
          handled = same.handled;
          acks = same.acks;
          refused = same.refused;
        },
      ),
      one_call old new e (λ r here.
          let b = lease.holds r here in
          (record { good = tt; leased = inr (b.0, refl, same.stopped); legal = tt; whole = tt; left = subst (λ x. IsLeft x [] []) (sym same.stopped) tt }, b.1)),
    )

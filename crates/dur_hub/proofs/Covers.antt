-- What was handed out begins the persistent entries, and what was acknowledged is durable.
use Rattle.std.proofs.Common.{◌≡◌, ℕ, zero, suc, ◌+◌, ◌≤◌, List, [], ◌∷◌, ◌++◌, length, take, drop, map, refl, ap, subst, ◌∙◌, sym, true, cond, arith, Option, Some, None, append-nil, append_assoc}
use Rattle.std.specs.Prelude.{Ok, Err}
use Rattle.std.proofs.lemmas.List.{take-append-le, take-append-drop, drop-take, take-take}
use Rattle.dur_base.specs.declared.entry.Entry.{Entry}
use Rattle.dur_base.specs.declared.entry.Entry.TheVariants.{Lost}
use Rattle.dur_view.specs.Identities.{Guid}
use Rattle.dur_view.specs.declared.change.Batch.{Batch}
use Rattle.dur_view.specs.History.{History, ◌+>◌, start, next}
use Rattle.dur_view.specs.IsSound.{IsHistory}
use Rattle.dur_hub.specs.declared.reply.Ack.{Ack}
use Rattle.dur_hub.specs.declared.reply.SnapFault.TheVariants as fault
use Rattle.dur_hub.specs.declared.event.Step.{Step}
use Rattle.dur_hub.specs.declared.event.Event.{Event}
use Rattle.dur_hub.specs.declared.event.Event.TheVariants as call
use Rattle.dur_view.specs.Stored.{stored, durable_part, is_stored, ack_base}
use Rattle.dur_hub.specs.Runs.{Writer, Run}
use Rattle.dur_hub.specs.Leases.{leavers, after_lease, at_moment}
use Rattle.dur_hub.specs.Acks.{asks_at, IsAnswer}
use Rattle.dur_hub.specs.Steps.{speaker, told_by, HearsBy, LegalStep, after_step, LegalSteps, after_steps}
use Rattle.dur_hub.specs.Legal.{IsBatch, named, LegalAt, after, Legal, run_after}
use Rattle.dur_hub.specs.Handed.{handed_by, handed, ack_of, acks_of, acks_by, acks_in, Covered}
use Rattle.dur_hub.specs.GoodRuns.{IsGoodRun}
use Rattle.dur_hub.proofs.Stored.{durable_is, next_longer, Grown, grown_refl, grown_trans, grown_by, part_grown, longer_grown}
use Rattle.dur_hub.proofs.GoodCalls.{good_call}

-- ---- how the history grows

pub grown_steps : (r : Run) (ss : List Step) → Grown r.history (after_steps r ss).history
grown_steps r [] = grown_refl r.history
grown_steps r (s ∷ ss) =
    grown_trans r.history (after_step r s).history (after_steps (after_step r s) ss).history
    (grown_by r.history s.entries) (grown_steps (after_step r s) ss)

pub grown_lease : (r : Run) (n : ℕ) → Grown r.history (after_lease r n).history
grown_lease r n = grown_by r.history (map (Lost r.moment) (take n (leavers r)))

-- the counts stay over facts
pub record SameCounts (r r' : Run) : Type 0 where
  pub durable : r'.durable ≡ r.durable
  pub taken : r'.taken ≡ r.taken

pub counts_steps : (r : Run) (ss : List Step) → SameCounts r (after_steps r ss)
counts_steps r [] = record { durable = refl; taken = refl }
counts_steps r (s ∷ ss) = let so = counts_steps (after_step r s) ss in record {
  durable = so.durable;
  taken = so.taken;
}

pub grown_call : (r : Run) (e : Event) → Grown r.history (after r e).history
grown_call r (call.Receive m lost steps cut stopped) =
    grown_trans r.history (after_lease (at_moment m r) lost).history
    (after_steps (after_lease (at_moment m r) lost) (steps ++ cut)).history
    (grown_lease (at_moment m r) lost)
    (grown_steps (after_lease (at_moment m r) lost) (steps ++ cut))
grown_call r (call.Snapshot m g lost (Ok s)) = grown_lease (at_moment m r) lost
grown_call r (call.Snapshot m g lost (Err fault.OutOfMemory)) = grown_lease (at_moment m r) lost
grown_call r (call.Snapshot m g lost (Err fault.Unknown)) = grown_refl r.history
grown_call r (call.Snapshot m g lost (Err fault.NotServed)) = grown_refl r.history
grown_call r (call.Snapshot m g lost (Err fault.Already)) = grown_refl r.history
grown_call r (call.Take b) = grown_refl r.history
grown_call r (call.TakeView (Ok given)) = grown_refl r.history
grown_call r (call.TakeView (Err e)) = grown_refl r.history
grown_call r (call.Mark upto) = grown_refl r.history
grown_call r call.Stop = grown_refl r.history
grown_call r call.Leave = grown_refl r.history
grown_call r (call.State s) = grown_refl r.history

pub grown_calls : (r : Run) (es : List Event) → Grown r.history (run_after r es).history
grown_calls r [] = grown_refl r.history
grown_calls r (e ∷ es) =
    grown_trans r.history (after r e).history (run_after (after r e) es).history (grown_call r e)
    (grown_calls (after r e) es)

-- ---- acknowledged is durable

covered_grown : (h h' : History) (d : ℕ) (acks : List Ack) → Grown h h' → d ≤ length (stored h)
    → Covered h d acks → Covered h' d acks
covered_grown h h' d [] grown le so = tt
covered_grown h h' d (a ∷ acks) grown le so =
    ((λ is. subst (λ q. a.set.base ≤ next q a.writer) (sym (part_grown h h' d grown le)) (so.0 (sym (ap (λ v. is_stored v a.writer) grown.begun) ∙ is))), covered_grown h h' d acks grown le so.1)

longer : (h : History) (g : Guid) (d k : ℕ) → is_stored (start h) g ≡ true → IsHistory h → d ≤ k
    → k ≤ length (stored h) → next (durable_part h d) g ≤ next (durable_part h k) g
longer h g d k is hist le within =
    omega
    (arith, next_longer h g d k is hist le within, ap (λ q. next q g) (durable_is h d), ap (λ q. next q g) (durable_is h k))

covered_longer : (h : History) (d k : ℕ) (acks : List Ack) → IsHistory h → d ≤ k
    → k ≤ length (stored h) → Covered h d acks → Covered h k acks
covered_longer h d k [] hist le within so = tt
covered_longer h d k (a ∷ acks) hist le within so =
    ((λ is. omega (arith, so.0 is, longer h a.writer d k is hist le within)), covered_longer h d k acks hist le within so.1)

covered_append : (h : History) (d : ℕ) (a b : List Ack) → Covered h d a → Covered h d b
    → Covered h d (a ++ b)
covered_append h d [] b x y = y
covered_append h d (c ∷ a) b x y = (x.0, covered_append h d a b x.1 y)

covered_ack : (h : History) (d : ℕ) (g : Guid) (a : Ack) → a.writer ≡ g
    → a.set.base ≡ ack_base h d g → Covered h d (a ∷ [])
covered_ack h d g a by base = (
  (λ is.
      let at : is_stored (start h) g ≡ true = ap (is_stored (start h)) (sym by) ∙ is in
      let e : ack_base h d g ≡ next (durable_part h d) g =
      ap (λ b. cond b (next (durable_part h d) g) (next h g)) at in
      let q : next (durable_part h d) a.writer ≡ next (durable_part h d) g =
      ap (next (durable_part h d)) by in
      omega (arith, e, base, q)),
  tt,
)

covered_step : (r : Run) (s : Step) → LegalStep r s
    → Covered (after_step r s).history r.durable (ack_of s.ack)
covered_step r s legal = covered_by (speaker r s.fact) legal where
  h : History
  h = r.history +> s.entries

  answered : (w : Writer) (o : Option ℕ) (ack : Option Ack)
      → IsAnswer r.plan h r.durable w (told_by r w s) o ack → Covered h r.durable (ack_of ack)
  answered w None ack is = subst (λ a. Covered h r.durable (ack_of a)) (sym is) tt
  answered w (Some last) None is = absurd is
  answered w (Some last) (Some a) is = covered_ack h r.durable w.line.guid a is.writer is.base

  covered_by : (o : Option Writer) → HearsBy r s o → Covered h r.durable (ack_of s.ack)
  covered_by None is = subst (λ a. Covered h r.durable (ack_of a)) (sym is.2) tt
  covered_by (Some w) hears =
      answered w (asks_at s.end s.fact (next h w.line.guid)) s.ack hears.answer

covered_steps : (r : Run) (ss : List Step) → LegalSteps r ss → r.durable ≤ length (stored r.history)
    → Covered (after_steps r ss).history r.durable (acks_of ss)
covered_steps r [] legal le = tt
covered_steps r (s ∷ ss) legal le =
    let q : Run = after_step r s in
    let within = longer_grown r.history q.history r.durable (grown_by r.history s.entries) le in
    covered_append (after_steps q ss).history r.durable (ack_of s.ack) (acks_of ss)
    (covered_grown q.history (after_steps q ss).history r.durable (ack_of s.ack) (grown_steps q ss) within (covered_step r s legal.0))
    (covered_steps q ss legal.1 within)

-- the least count from d on that is congruent is no less than d
named_from : (d upto : ℕ) → d ≤ named d upto
named_from d upto = omega arith

-- what was covered before a call stays so
covered_call : (r : Run) (e : Event) (acks : List Ack) → IsGoodRun r → LegalAt r e
    → Covered r.history r.durable acks → Covered (after r e).history (after r e).durable acks
covered_call r (call.Receive m lost steps cut stopped) acks good legal so =
    let q : Run = after_lease (at_moment m r) lost in
    subst (λ d. Covered (after_steps q (steps ++ cut)).history d acks)
    (sym (counts_steps q (steps ++ cut)).durable)
    (covered_grown r.history (after_steps q (steps ++ cut)).history r.durable acks (grown_call r (call.Receive m lost steps cut stopped)) (omega (arith, good.durable, good.taken)) so)
covered_call r (call.Snapshot m g lost (Ok s)) acks good legal so =
    covered_grown r.history (after_lease (at_moment m r) lost).history r.durable acks
    (grown_lease (at_moment m r) lost) (omega (arith, good.durable, good.taken)) so
covered_call r (call.Snapshot m g lost (Err fault.OutOfMemory)) acks good legal so =
    covered_grown r.history (after_lease (at_moment m r) lost).history r.durable acks
    (grown_lease (at_moment m r) lost) (omega (arith, good.durable, good.taken)) so
covered_call r (call.Snapshot m g lost (Err fault.Unknown)) acks good legal so = so
covered_call r (call.Snapshot m g lost (Err fault.NotServed)) acks good legal so = so
covered_call r (call.Snapshot m g lost (Err fault.Already)) acks good legal so = so
covered_call r (call.Take b) acks good legal so = so
covered_call r (call.TakeView (Ok given)) acks good legal so = so
covered_call r (call.TakeView (Err e)) acks good legal so = so
covered_call r (call.Mark upto) acks good legal so =
    covered_longer r.history r.durable (named r.durable upto) acks good.history
    (named_from r.durable upto) (omega (arith, legal, good.taken)) so
covered_call r call.Stop acks good legal so = so
covered_call r call.Leave acks good legal so = so
covered_call r (call.State s) acks good legal so = so

covered_run : (r : Run) (es : List Event) (acks : List Ack) → IsGoodRun r → Legal r es
    → Covered r.history r.durable acks
    → Covered (run_after r es).history (run_after r es).durable acks
covered_run r [] acks good legal so = so
covered_run r (e ∷ es) acks good legal so =
    covered_run (after r e) es acks (good_call r e good legal.0) legal.1
    (covered_call r e acks good legal.0 so)

-- what a call itself acknowledges
covered_here : (r : Run) (e : Event) → IsGoodRun r → LegalAt r e
    → Covered (after r e).history (after r e).durable (acks_by e)
covered_here r (call.Receive m lost steps cut stopped) good legal =
    let q : Run = after_lease (at_moment m r) lost in
    subst (λ d. Covered (after_steps q (steps ++ cut)).history d (acks_of (steps ++ cut)))
    (sym (counts_steps q (steps ++ cut)).durable)
    (covered_steps q (steps ++ cut) legal.legal (longer_grown r.history q.history r.durable (grown_lease (at_moment m r) lost) (omega (arith, good.durable, good.taken))))
covered_here r (call.Snapshot m g lost reply) good legal = tt
covered_here r (call.Take b) good legal = tt
covered_here r (call.TakeView reply) good legal = tt
covered_here r (call.Mark upto) good legal = tt
covered_here r call.Stop good legal = tt
covered_here r call.Leave good legal = tt
covered_here r (call.State s) good legal = tt

-- what is acknowledged is durable
pub law_durable : (r : Run) (es : List Event) → IsGoodRun r → Legal r es
    → Covered (run_after r es).history (run_after r es).durable (acks_in es)
law_durable r [] good legal = tt
law_durable r (e ∷ es) good legal =
    let good1 = good_call r e good legal.0 in
    covered_append (run_after (after r e) es).history (run_after (after r e) es).durable (acks_by e)
    (acks_in es)
    (covered_run (after r e) es (acks_by e) good1 legal.1 (covered_here r e good legal.0))
    (law_durable (after r e) es good1 legal.1)

-- ---- what is handed out

take_front : (n : ℕ) (l : List Entry) → take (length (take n l)) l ≡ take n l
take_front zero l = refl
take_front (suc n) [] = refl
take_front (suc n) (x ∷ l) = ap (λ k. x ∷ k) (take_front n l)

front_more : (t n : ℕ) (l : List Entry) → take t l ++ take n (drop t l) ≡ take (t + n) l
front_more t n l =
    ap (λ a. a ++ take n (drop t l)) (sym (take-take t (t + n) l (omega arith)))
    ∙ ap (λ b. take t (take (t + n) l) ++ b) (sym (drop-take t n l))
    ∙ take-append-drop t (take (t + n) l)

-- a batch goes on where the last one ended
front_batch : (r : Run) (n : ℕ) (b : Batch) → IsBatch r n b
    → take (r.taken + length b.entries) (stored r.history) ≡ take r.taken (stored r.history) ++ b.entries
front_batch r n b is =
    let l : List Entry = drop r.taken (stored r.history) in
    let same : b.entries ≡ take (length b.entries) l =
    is.entries ∙ sym (take_front n l) ∙ ap (λ k. take (length k) l) (sym is.entries) in
    sym (front_more r.taken (length b.entries) (stored r.history))
    ∙ ap (λ k. take r.taken (stored r.history) ++ k) (sym same)

-- a call that hands out nothing
front_none : (r r' : Run) → Grown r.history r'.history → r'.taken ≡ r.taken
    → r.taken ≤ length (stored r.history)
    → take r'.taken (stored r'.history) ≡ take r.taken (stored r.history) ++ []
front_none r r' grown same le =
    ap (λ n. take n (stored r'.history)) same ∙ ap (take r.taken) grown.kept
    ∙ take-append-le r.taken (stored r.history) grown.more le
    ∙ sym (append-nil (take r.taken (stored r.history)))

front_call : (r : Run) (e : Event) → IsGoodRun r → LegalAt r e
    → take (after r e).taken (stored (after r e).history) ≡ take r.taken (stored r.history) ++ handed_by e
front_call r (call.Receive m lost steps cut stopped) good legal =
    front_none r (after r (call.Receive m lost steps cut stopped))
    (grown_call r (call.Receive m lost steps cut stopped))
    (counts_steps (after_lease (at_moment m r) lost) (steps ++ cut)).taken good.taken
front_call r (call.Snapshot m g lost (Ok s)) good legal =
    front_none r (after r (call.Snapshot m g lost (Ok s))) (grown_lease (at_moment m r) lost) refl
    good.taken
front_call r (call.Snapshot m g lost (Err fault.OutOfMemory)) good legal =
    front_none r (after_lease (at_moment m r) lost) (grown_lease (at_moment m r) lost) refl
    good.taken
front_call r (call.Snapshot m g lost (Err fault.Unknown)) good legal =
    sym (append-nil (take r.taken (stored r.history)))
front_call r (call.Snapshot m g lost (Err fault.NotServed)) good legal =
    sym (append-nil (take r.taken (stored r.history)))
front_call r (call.Snapshot m g lost (Err fault.Already)) good legal =
    sym (append-nil (take r.taken (stored r.history)))
front_call r (call.Take b) good legal = front_batch r 4096 b legal
front_call r (call.TakeView (Ok given)) good legal =
    front_batch r (length (stored r.history)) given.0 legal.0
front_call r (call.TakeView (Err e)) good legal = sym (append-nil (take r.taken (stored r.history)))
front_call r (call.Mark upto) good legal = sym (append-nil (take r.taken (stored r.history)))
front_call r call.Stop good legal = sym (append-nil (take r.taken (stored r.history)))
front_call r call.Leave good legal = sym (append-nil (take r.taken (stored r.history)))
front_call r (call.State s) good legal = sym (append-nil (take r.taken (stored r.history)))

-- what was handed out begins the persistent entries
pub law_handed : (r : Run) (es : List Event) → IsGoodRun r → Legal r es
    → take r.taken (stored r.history) ++ handed es ≡ take (run_after r es).taken (stored (run_after r es).history)
law_handed r [] good legal = append-nil (take r.taken (stored r.history))
law_handed r (e ∷ es) good legal =
    sym (append_assoc (take r.taken (stored r.history)) (handed_by e) (handed es))
    ∙ ap (λ l. l ++ handed es) (sym (front_call r e good legal.0))
    ∙ law_handed (after r e) es (good_call r e good legal.0) legal.1

-- Whole `receive`s of the same input lead to the same run.
use Rattle.std.proofs.Common.{◌≡◌, ◌≢◌, inl, inr, ℕ, ◌+◌, ◌<◌, List, [], ◌∷◌, ◌++◌, length, refl, ap, subst, ◌∙◌, sym, Bool, false, Option, Some, None, arith, append-nil}
use Rattle.dur_base.specs.declared.sample.Sample.{Sample}
use Rattle.dur_base.specs.declared.entry.Entry.{Entry}
use Rattle.dur_base.specs.declared.entry.Entry.TheVariants.{Took, Skip, Lost}
use Rattle.dur_base.specs.declared.fact.Fact.{Fact}
use Rattle.dur_qos.specs.declared.plan.Plan.{Plan}
use Rattle.dur_view.specs.Identities.{Guid}
use Rattle.dur_view.specs.History.{History, ◌▸◌, ◌+>◌, next as next_in}
use Rattle.dur_view.specs.Refused.{refused}
use Rattle.rel_reader.specs.declared.known.Known.TheVariants.{Irrelevant, With}
use Rattle.rel_reader.specs.Stories.{Story, next}
use Rattle.rel_reader.specs.KnownNumbers.{known}
use Rattle.rel_reader.specs.Skips.{IsSkip}
use Rattle.dur_hub.specs.declared.event.End.{End}
use Rattle.dur_hub.specs.declared.event.End.TheVariants.{Waits, Refuses, Stopped}
use Rattle.dur_hub.specs.declared.event.Step.{Step}
use Rattle.dur_hub.specs.declared.event.Event.{Event}
use Rattle.dur_hub.specs.declared.event.Event.TheVariants as call
use Rattle.dur_hub.specs.declared.reply.Ack.{Ack}
use Rattle.dur_hub.specs.Telling.{with_entry}
use Rattle.dur_hub.specs.Admission.{IsNext, Ends, Handles, after_handling}
use Rattle.dur_hub.specs.Runs.{Writer, Run}
use Rattle.dur_hub.specs.Leases.{leavers, after_lease, at_moment}
use Rattle.dur_hub.specs.Acks.{asks_at, IsAnswer, one_for, acks_after}
use Rattle.dur_hub.specs.Steps.{speaker, heard_of, HearsBy, LegalStep, with_speaker, one_refused, after_step, LegalSteps, after_steps}
use Rattle.dur_hub.specs.Legal.{AllWhole, IsLeft, facts_of, IsLeased, LegalReceive, LegalAt, after, Legal, run_after}
use Rattle.dur_hub.specs.Alike.{IsAlike, AreAlike}

-- ---- one number has one entry

before_ends : (s : Story) (a b : ℕ) → IsSkip s a → IsSkip s b → a < b → ⊥
before_ends s a b x y lt = x.ends (y.each a (omega (arith, x.some)) lt)

pub skips_one : (s : Story) (a b : ℕ) → IsSkip s a → IsSkip s b → a ≡ b
skips_one s a b x y = omega (arith, before_ends s a b x y, before_ends s b a y x)

with_one : (x y : Sample) → With x ≡ With y → x ≡ y
with_one x y is = cc

pub skip_first : (s : Story) (to : ℕ) → IsSkip s to → known s (next s) ≡ Irrelevant
skip_first s to is = is.each (next s) (omega arith) is.some

took_one : (a b : ℕ) (u v : Guid) (j k : ℕ) (x y : Sample) → a ≡ b → u ≡ v → j ≡ k → x ≡ y
    → Took a u j x ≡ Took b v k y
took_one a b u v j k x y e1 e2 e3 e4 = cc

skip_one : (a b : ℕ) (u v : Guid) (j k m n : ℕ) → a ≡ b → u ≡ v → j ≡ k → m ≡ n
    → Skip a u j m ≡ Skip b v k n
skip_one a b u v j k m n e1 e2 e3 e4 = cc

next_one : (s : Story) (w : Guid) (m : ℕ) (e f : Entry) → IsNext s w m e → IsNext s w m f → e ≡ f
next_one s w m (Took a u k x) (Took b v j y) is or =
    took_one a b u v k j x y (is.0 ∙ sym or.0) (is.1 ∙ sym or.1) (is.2 ∙ sym or.2)
    (with_one x y (sym is.3 ∙ or.3))
next_one s w m (Skip a u k x) (Skip b v j y) is or =
    skip_one a b u v k j x y (is.0 ∙ sym or.0) (is.1 ∙ sym or.1) (is.2 ∙ sym or.2)
    (omega (arith, skips_one s (x + 1) (y + 1) is.3 or.3))
next_one s w m (Took a u k x) (Skip b v j y) is or =
    absurd (let p = skip_first s (y + 1) or.3 in let q = is.3 in cc)
next_one s w m (Skip a u k x) (Took b v j y) is or =
    absurd (let p = skip_first s (x + 1) is.3 in let q = or.3 in cc)
next_one s w m (Lost a u) f is or = absurd is
next_one s w m (Took a u k x) (Lost b v) is or = absurd or
next_one s w m (Skip a u k x) (Lost b v) is or = absurd or

-- where the numbers end no entry is next
ends_none : (s : Story) (h : History) (w : Guid) (m : ℕ) (end : End) (f : Entry) → end ≢ Stopped
    → Ends s h w m end → IsNext s w m f → refused h f ≡ None → ⊥
ends_none s h w m Stopped f no_stop is or fine = no_stop refl
ends_none s h w m Waits (Took b v j y) no_stop is or fine = (let q = or.3 in cc)
ends_none s h w m Waits (Skip b v j y) no_stop is or fine =
    (let q = skip_first s (y + 1) or.3 in cc)
ends_none s h w m Waits (Lost b v) no_stop is or fine = or
ends_none s h w m (Refuses n answer) (Took b v j y) no_stop is or fine =
    let x : Sample = is.1.0 in
    let same : Took b v j y ≡ Took m w (next s) x =
    took_one b m v w j (next s) y x or.0 or.1 or.2 (with_one y x (sym or.3 ∙ is.1.1)) in
    let none : refused h (Took m w (next s) x) ≡ None = ap (refused h) (sym same) ∙ fine in
    let some = is.1.2 in
    cc
ends_none s h w m (Refuses n answer) (Skip b v j y) no_stop is or fine =
    (let q = skip_first s (y + 1) or.3 in let p = is.1.1 in cc)
ends_none s h w m (Refuses n answer) (Lost b v) no_stop is or fine = or

ends_one : (s : Story) (h : History) (w : Guid) (m : ℕ) (a b : End) → a ≢ Stopped → b ≢ Stopped
    → Ends s h w m a → Ends s h w m b → a ≡ b
ends_one s h w m Stopped b na nb is or = absurd (na refl)
ends_one s h w m Waits Stopped na nb is or = absurd (nb refl)
ends_one s h w m (Refuses n answer) Stopped na nb is or = absurd (nb refl)
ends_one s h w m Waits Waits na nb is or = refl
ends_one s h w m Waits (Refuses n answer) na nb is or = absurd (let q = or.1.1 in cc)
ends_one s h w m (Refuses n answer) Waits na nb is or = absurd (let q = is.1.1 in cc)
ends_one s h w m (Refuses n answer) (Refuses k reply) na nb is or =
    let same : is.1.0 ≡ or.1.0 = with_one is.1.0 or.1.0 (sym is.1.1 ∙ or.1.1) in
    let limits : Some answer ≡ Some reply =
    sym is.1.2 ∙ ap (λ x. refused h (Took m w (next s) x)) same ∙ or.1.2 in
    let numbers : n ≡ k = is.0 ∙ sym or.0 in
    cc

handles_one : (s : Story) (h : History) (w : Guid) (m : ℕ) (es fs : List Entry) (a b : End)
    → Handles s h w m es a → Handles s h w m fs b → a ≢ Stopped → b ≢ Stopped → (es ≡ fs) × (a ≡ b)
handles_one s h w m [] [] a b is or na nb = (refl, ends_one s h w m a b na nb is or)
handles_one s h w m [] (f ∷ fs) a b is or na nb = absurd (ends_none s h w m a f na is or.0 or.2)
handles_one s h w m (e ∷ es) [] a b is or na nb = absurd (ends_none s h w m b e nb or is.0 is.2)
handles_one s h w m (e ∷ es) (f ∷ fs) a b is or na nb =
    let same : e ≡ f = next_one s w m e f is.0 or.0 in
    let rest =
    handles_one (with_entry s e) (h ▸ e) w m es fs a b is.3
    (subst (λ x. Handles (with_entry s x) (h ▸ x) w m fs b) (sym same) or.3) na nb in
    (ap (λ x. x ∷ es) same ∙ ap (λ l. f ∷ l) rest.0, rest.1)

-- ---- one fact has one outcome

-- how many acknowledgements something that asks is given
abbrev pub asked_for : Option ℕ → ℕ
asked_for None = 0
asked_for (Some last) = 1

answers_one : (plan : Plan) (h : History) (d : ℕ) (w : Writer) (s : Story) (o : Option ℕ)
    (ack : Option Ack)
    → IsAnswer plan h d w s o ack → one_for ack ≡ asked_for o
answers_one plan h d w s None ack is = ap one_for is
answers_one plan h d w s (Some last) None is = absurd is
answers_one plan h d w s (Some last) (Some a) is = refl

-- the run after a step, by what it depends on
abbrev pub stepped : Run → Fact → List Entry → End → ℕ → Run
stepped r f es end n =
    record r {
      history = r.history +> es;
      writers =
          with_speaker r.plan f
          (λ w. record w {
            story = after_handling (heard_of r w f) es end;
            heard = r.moment;
            lost = false;
            acks = acks_after n w.acks;
          })
          r.writers;
      acks = r.acks + n;
      refused = r.refused + one_refused end;
    }

stepped_same : (r : Run) (f g : Fact) (es fs : List Entry) (a b : End) (n k : ℕ) → f ≡ g → es ≡ fs
    → a ≡ b → n ≡ k → stepped r f es a n ≡ stepped r g fs b k
stepped_same r f g es fs a b n k e1 e2 e3 e4 =
    ap (λ x. stepped r x es a n) e1 ∙ ap (λ x. stepped r g x a n) e2
    ∙ ap (λ x. stepped r g fs x n) e3 ∙ ap (λ x. stepped r g fs b x) e4

step_one : (r : Run) (s t : Step) → LegalStep r s → LegalStep r t → s.end ≢ Stopped
    → t.end ≢ Stopped → s.fact ≡ t.fact → after_step r s ≡ after_step r t
step_one r s t is or ns nt same =
    one_by (speaker r s.fact) is (subst (λ f. HearsBy r t (speaker r f)) (sym same) or) where
      one_by : (o : Option Writer) → HearsBy r s o → HearsBy r t o → after_step r s ≡ after_step r t
      one_by None a b =
          stepped_same r s.fact t.fact s.entries t.entries s.end t.end (one_for s.ack) (one_for t.ack)
          same (a.0 ∙ sym b.0) (a.1 ∙ sym b.1) (ap one_for (a.2 ∙ sym b.2))
      one_by (Some w) a b =
          let both =
          handles_one (heard_of r w s.fact) r.history w.line.guid r.moment s.entries t.entries s.end
          t.end a.handles
          (subst (λ f. Handles (heard_of r w f) r.history w.line.guid r.moment t.entries t.end) (sym same) b.handles)
          ns nt in
          let na = answers_one _ _ _ _ _ _ s.ack a.answer in
          let nb = answers_one _ _ _ _ _ _ t.ack b.answer in
          let asked : asks_at s.end s.fact (next_in (r.history +> s.entries) w.line.guid) ≡ asks_at t.end t.fact (next_in (r.history +> t.entries) w.line.guid) =
          ap (λ x. asks_at x s.fact (next_in (r.history +> s.entries) w.line.guid)) both.1
          ∙ ap (λ x. asks_at t.end x (next_in (r.history +> s.entries) w.line.guid)) same
          ∙ ap (λ x. asks_at t.end t.fact (next_in (r.history +> x) w.line.guid)) both.0 in
          stepped_same r s.fact t.fact s.entries t.entries s.end t.end (one_for s.ack) (one_for t.ack)
          same both.0 both.1 (na ∙ ap asked_for asked ∙ sym nb)

steps_one : (r : Run) (ss ts : List Step) → LegalSteps r ss → LegalSteps r ts → AllWhole ss
    → AllWhole ts → facts_of ss ≡ facts_of ts → after_steps r ss ≡ after_steps r ts
steps_one r [] [] is or ws wt same = refl
steps_one r [] (t ∷ ts) is or ws wt same = absurd (cc)
steps_one r (s ∷ ss) [] is or ws wt same = absurd (cc)
steps_one r (s ∷ ss) (t ∷ ts) is or ws wt same =
    let fact : s.fact ≡ t.fact = cc in
    let rest : facts_of ss ≡ facts_of ts = cc in
    let q : after_step r s ≡ after_step r t = step_one r s t is.0 or.0 ws.0 wt.0 fact in
    steps_one (after_step r s) ss ts is.1 (subst (λ x. LegalSteps x ts) (sym q) or.1) ws.1 wt.1 rest
    ∙ ap (λ x. after_steps x ts) q

-- ---- one call

whole_nil : (ss cut : List Step) → cut ≡ [] → AllWhole ss → AllWhole (ss ++ cut)
whole_nil ss cut is whole =
    subst (λ l. AllWhole (ss ++ l)) (sym is) (subst AllWhole (sym (append-nil ss)) whole)

all_leave : (n : ℕ) (gs : List Guid) (b : Bool) (ss : List Step) → b ≡ false → IsLeased n gs b ss
    → n ≡ length gs
all_leave n gs b ss is (inl all) = all
all_leave n gs b ss is (inr few) = absurd (let q = few.2 in cc)

receive_one : (r : Run) (lost gone : ℕ) (steps cut marks rest : List Step) (a b : Bool)
    → LegalReceive r lost steps cut a → LegalReceive r gone marks rest b → a ≡ false → b ≡ false
    → facts_of (steps ++ cut) ≡ facts_of (marks ++ rest)
    → after_steps (after_lease r lost) (steps ++ cut) ≡ after_steps (after_lease r gone) (marks ++ rest)
receive_one r lost gone steps cut marks rest a b is or na nb same =
    let same_lost : lost ≡ gone =
    all_leave lost (leavers r) a (steps ++ cut) na is.leased
    ∙ sym (all_leave gone (leavers r) b (marks ++ rest) nb or.leased) in
    let no_cut : cut ≡ [] = (subst (λ x. IsLeft x cut []) na is.left).0 in
    let no_rest : rest ≡ [] = (subst (λ x. IsLeft x rest []) nb or.left).0 in
    steps_one (after_lease r lost) (steps ++ cut) (marks ++ rest) is.legal
    (subst (λ n. LegalSteps (after_lease r n) (marks ++ rest)) (sym same_lost) or.legal)
    (whole_nil steps cut no_cut is.whole) (whole_nil marks rest no_rest or.whole) same
    ∙ ap (λ n. after_steps (after_lease r n) (marks ++ rest)) same_lost

call_one : (r : Run) (e f : Event) → LegalAt r e → LegalAt r f → IsAlike e f → after r e ≡ after r f
call_one r (call.Receive m lost steps cut stopped) (call.Receive n gone marks rest ended) is or alike =
    receive_one (at_moment m r) lost gone steps cut marks rest stopped ended is
    (subst (λ k. LegalReceive (at_moment k r) gone marks rest ended) (sym alike.0) or) alike.2
    alike.3 alike.1
    ∙ ap (λ k. after_steps (after_lease (at_moment k r) gone) (marks ++ rest)) alike.0
call_one r (call.Receive m lost steps cut stopped) (call.Snapshot n g gone reply) is or alike =
    absurd alike
call_one r (call.Receive m lost steps cut stopped) (call.Take b) is or alike = absurd alike
call_one r (call.Receive m lost steps cut stopped) (call.TakeView reply) is or alike = absurd alike
call_one r (call.Receive m lost steps cut stopped) (call.Mark upto) is or alike = absurd alike
call_one r (call.Receive m lost steps cut stopped) call.Stop is or alike = absurd alike
call_one r (call.Receive m lost steps cut stopped) call.Leave is or alike = absurd alike
call_one r (call.Receive m lost steps cut stopped) (call.State s) is or alike = absurd alike
call_one r (call.Snapshot m g lost reply) f is or alike = absurd alike
call_one r (call.Take b) f is or alike = absurd alike
call_one r (call.TakeView reply) f is or alike = absurd alike
call_one r (call.Mark upto) f is or alike = absurd alike
call_one r call.Stop f is or alike = absurd alike
call_one r call.Leave f is or alike = absurd alike
call_one r (call.State s) f is or alike = absurd alike

-- lists of whole `receive`s of the same input lead to the same run
pub law_same : (r : Run) (es fs : List Event) → Legal r es → Legal r fs → AreAlike es fs
    → run_after r es ≡ run_after r fs
law_same r [] [] is or alike = refl
law_same r [] (f ∷ fs) is or alike = absurd alike
law_same r (e ∷ es) [] is or alike = absurd alike
law_same r (e ∷ es) (f ∷ fs) is or alike =
    let q : after r e ≡ after r f = call_one r e f is.0 or.0 alike.0 in
    law_same (after r e) es fs is.1 (subst (λ x. Legal x fs) (sym q) or.1) alike.1
    ∙ ap (λ x. run_after x fs) q

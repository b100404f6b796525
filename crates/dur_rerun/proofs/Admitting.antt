-- The calls for records: what they are, and to which run they lead.
use Rattle.std.proofs.Common.{◌≡◌, ℕ, max, List, [], ◌∷◌, ◌++◌, Bool, false, refl, length, sym, ap, subst, ◌∙◌, append-nil, arith}
use Rattle.std.proofs.lemmas.List.{length-map}
use Rattle.dur_base.specs.declared.fact.Fact.{Fact}
use Rattle.dur_capture.specs.declared.record.Record.{Record}
use Rattle.rtps_message.specs.declared.heard.Heard.{Heard}
use Rattle.rtps_message.specs.Messages.{Hears}
use Rattle.rtps_message.proofs.Once.{hears_once}
use Rattle.dur_hub.specs.declared.event.Event.{Event}
use Rattle.dur_hub.specs.declared.event.Event.TheVariants as event
use Rattle.dur_hub.specs.declared.event.Step.{Step}
use Rattle.dur_hub.specs.declared.hub.Hub.{Hub}
use Rattle.dur_hub.specs.declared.reply.Received.{Received}
use Rattle.dur_hub.specs.Runs.{Run}
use Rattle.dur_hub.specs.Leases.{at_moment, after_lease}
use Rattle.dur_hub.specs.Steps.{after_step, after_steps}
use Rattle.dur_hub.specs.Legal.{IsLeft, facts_of, after, run_after}
use Rattle.dur_hub.specs.Handed.{acks_by}
use Rattle.dur_hub.specs.Readings.{refusals_by}
use Rattle.dur_hub.specs.Hubs.{Adds}
use Rattle.dur_hub.specs.Alike.{IsAlike, AreAlike}
use Rattle.dur_hub.specs.Answers.{TellsReceive, TellsOf}
use Rattle.dur_hub.proofs.Going.{moment_steps}
use Rattle.dur_rerun.specs.declared.rerun.nacks.Nack.{Nack}
use Rattle.dur_rerun.specs.Rerun.Replies.{nacks}
use Rattle.dur_rerun.specs.Input.Records.{latest}
use Rattle.dur_rerun.specs.Admission.{IsWhole, Brings, Admitted, BringAll}

-- ---- one call

all_handled : (steps cut : List Step) → cut ≡ [] → length (facts_of (steps ++ cut)) ≡ length steps
all_handled steps cut none = length-map (steps ++ cut) (λ (s : Step). s.fact) ∙ ap (λ (l : List Step). length (steps ++ l)) none ∙ ap length (append-nil steps)

-- what the reply of a whole call says of it
record Whole (m : ℕ) (facts : List Fact) (reply : Received) (e : Event) : Type 0 where
  is : IsWhole m facts e
  acks : reply.acks ≡ acks_by e
  refused : reply.refused ≡ refusals_by e
  handled : reply.handled ≡ length facts

tells_whole : (m : ℕ) (facts : List Fact) (reply : Received) (e : Event) → TellsReceive m facts reply e → reply.stopped ≡ false → Whole m facts reply e
tells_whole m facts reply (event.Receive at lost steps cut stopped) tells whole =
    let t : TellsOf facts reply steps cut = tells.2 in
    let left : (cut ≡ []) × (t.rest ≡ []) = subst (λ (b : Bool). IsLeft b cut t.rest) whole t.left in
    let all : facts ≡ facts_of (steps ++ cut) = t.told ∙ ap (λ (l : List Fact). facts_of (steps ++ cut) ++ l) left.1 ∙ append-nil (facts_of (steps ++ cut)) in
    record {
      is = (tells.0, sym all, tells.1 ∙ whole);
      acks = t.acks;
      refused = t.refused;
      handled = t.handled ∙ sym (all_handled steps cut left.0) ∙ sym (ap length all);
    }
tells_whole m facts reply (event.Snapshot at g lost answer) tells whole = absurd tells
tells_whole m facts reply (event.Take b) tells whole = absurd tells
tells_whole m facts reply (event.TakeView answer) tells whole = absurd tells
tells_whole m facts reply (event.Mark upto) tells whole = absurd tells
tells_whole m facts reply event.Stop tells whole = absurd tells
tells_whole m facts reply event.Leave tells whole = absurd tells
tells_whole m facts reply (event.State s) tells whole = absurd tells

-- a `receive` of what a record tells, for which memory was not wanting, is the call for it
pub admitted : (own : List ℕ) (r : Record) (heard : Heard) (reply : Received) (asked : List Nack) (old new : Hub) → Hears own r.bytes heard → asked ≡ nacks heard.facts
    → ((e : Event) × TellsReceive r.moment heard.facts reply e × Adds old e new) → reply.stopped ≡ false → Admitted own r reply asked old new
admitted own r heard reply asked old new hears are called whole =
    let t = tells_whole r.moment heard.facts reply called.0 called.1 whole in
    record {
      call = called.0;
      brings = record { heard = heard; hears = hears; whole = t.is };
      acks = t.acks;
      refused = t.refused;
      handled = t.handled;
      nacks_are = are;
      adds = called.2;
    }

-- ---- calls one after the other

-- one record more
pub bring_more : (own : List ℕ) (rs : List Record) (es : List Event) (r : Record) (e : Event) → BringAll own rs es → Brings own r e → BringAll own (rs ++ r ∷ []) (es ++ e ∷ [])
bring_more own [] [] r e all one = (one, tt)
bring_more own [] (f ∷ es) r e all one = absurd all
bring_more own (x ∷ rs) [] r e all one = absurd all
bring_more own (x ∷ rs) (f ∷ es) r e all one = (all.0, bring_more own rs es r e all.1 one)

pub plan_steps : (r : Run) (ss : List Step) → (after_steps r ss).plan ≡ r.plan
plan_steps r [] = refl
plan_steps r (s ∷ ss) = plan_steps (after_step r s) ss

-- a `receive` keeps the plan, and uses the greater of its moment and the last one
call_keeps : (m : ℕ) (facts : List Fact) (r : Run) (e : Event) → IsWhole m facts e → ((after r e).plan ≡ r.plan) × ((after r e).moment ≡ max r.moment m)
call_keeps m facts r (event.Receive at lost steps cut stopped) whole = (
  plan_steps (after_lease (at_moment at r) lost) (steps ++ cut),
  moment_steps (after_lease (at_moment at r) lost) (steps ++ cut) ∙ ap (max r.moment) whole.0,
)
call_keeps m facts r (event.Snapshot at g lost answer) whole = absurd whole
call_keeps m facts r (event.Take b) whole = absurd whole
call_keeps m facts r (event.TakeView answer) whole = absurd whole
call_keeps m facts r (event.Mark upto) whole = absurd whole
call_keeps m facts r event.Stop whole = absurd whole
call_keeps m facts r event.Leave whole = absurd whole
call_keeps m facts r (event.State s) whole = absurd whole

later_of : (a b c d : ℕ) → a ≡ max b c → max a d ≡ max b (max c d)
later_of a b c d is = omega (arith, is)

-- the calls for records keep the plan, and lead to the greatest moment
pub calls_keep : (own : List ℕ) (rs : List Record) (es : List Event) (r : Run) → BringAll own rs es → ((run_after r es).plan ≡ r.plan) × ((run_after r es).moment ≡ max r.moment (latest rs))
calls_keep own [] [] r all = (refl, omega arith)
calls_keep own [] (f ∷ es) r all = absurd all
calls_keep own (x ∷ rs) [] r all = absurd all
calls_keep own (x ∷ rs) (f ∷ es) r all =
    let one = call_keeps x.moment all.0.heard.facts r f all.0.whole in
    let more = calls_keep own rs es (after r f) all.1 in
    (more.0 ∙ one.0, more.1 ∙ later_of (after r f).moment r.moment x.moment (latest rs) one.1)

-- ---- the calls for the same records

whole_alike : (m : ℕ) (a b : List Fact) (e f : Event) → a ≡ b → IsWhole m a e → IsWhole m b f → IsAlike e f
whole_alike m a b (event.Receive at lost steps cut stopped) (event.Receive n gone marks rest ended) same x y = (x.0 ∙ sym y.0, x.1 ∙ same ∙ sym y.1, x.2, y.2)
whole_alike m a b (event.Receive at lost steps cut stopped) (event.Snapshot n g gone answer) same x y = absurd y
whole_alike m a b (event.Receive at lost steps cut stopped) (event.Take batch) same x y = absurd y
whole_alike m a b (event.Receive at lost steps cut stopped) (event.TakeView answer) same x y = absurd y
whole_alike m a b (event.Receive at lost steps cut stopped) (event.Mark upto) same x y = absurd y
whole_alike m a b (event.Receive at lost steps cut stopped) event.Stop same x y = absurd y
whole_alike m a b (event.Receive at lost steps cut stopped) event.Leave same x y = absurd y
whole_alike m a b (event.Receive at lost steps cut stopped) (event.State s) same x y = absurd y
whole_alike m a b (event.Snapshot at g lost answer) f same x y = absurd x
whole_alike m a b (event.Take batch) f same x y = absurd x
whole_alike m a b (event.TakeView answer) f same x y = absurd x
whole_alike m a b (event.Mark upto) f same x y = absurd x
whole_alike m a b event.Stop f same x y = absurd x
whole_alike m a b event.Leave f same x y = absurd x
whole_alike m a b (event.State s) f same x y = absurd x

pub all_alike : (own : List ℕ) (rs : List Record) (es fs : List Event) → BringAll own rs es → BringAll own rs fs → AreAlike es fs
all_alike own [] [] [] x y = tt
all_alike own [] [] (f ∷ fs) x y = absurd y
all_alike own [] (e ∷ es) fs x y = absurd x
all_alike own (r ∷ rs) [] fs x y = absurd x
all_alike own (r ∷ rs) (e ∷ es) [] x y = absurd y
all_alike own (r ∷ rs) (e ∷ es) (f ∷ fs) x y =
    let same = hears_once own r.bytes x.0.heard y.0.heard x.0.hears y.0.hears in
    (whole_alike r.moment x.0.heard.facts y.0.heard.facts e f (ap (λ (h : Heard). h.facts) same) x.0.whole y.0.whole, all_alike own rs es fs x.1 y.1)

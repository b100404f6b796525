-- What a call admits is of the moment that it uses, and so no earlier than any before.
use Rattle.std.proofs.Common.{◌≡◌, ℕ, ◌≤◌, List, [], ◌∷◌, ◌++◌, length, take, map, Option, Some, None, refl, sym, ap, subst, ◌∙◌, arith}
use Rattle.std.specs.Prelude.{Ok, Err}
use Rattle.dur_base.specs.declared.entry.Entry.{Entry}
use Rattle.dur_base.specs.declared.entry.Entry.TheVariants.{Took, Skip, Lost}
use Rattle.dur_view.specs.Identities.{Guid}
use Rattle.dur_view.specs.History.{History, ◌▸◌, ◌+>◌, moment_of}
use Rattle.dur_view.specs.Stored.{stored}
use Rattle.rel_reader.specs.Stories.{Story}
use Rattle.dur_hub.specs.declared.event.End.{End}
use Rattle.dur_hub.specs.declared.event.Step.{Step}
use Rattle.dur_hub.specs.declared.event.Event.{Event}
use Rattle.dur_hub.specs.declared.event.Event.TheVariants as call
use Rattle.dur_hub.specs.declared.reply.SnapFault.TheVariants as fault
use Rattle.dur_hub.specs.Telling.{with_entry}
use Rattle.dur_hub.specs.Admission.{IsNext, Handles}
use Rattle.dur_hub.specs.Leases.{leavers, after_lease, at_moment}
use Rattle.dur_hub.specs.Runs.{Writer, Run}
use Rattle.dur_hub.specs.Steps.{speaker, HearsBy, LegalStep, after_step, LegalSteps, after_steps}
use Rattle.dur_hub.specs.Legal.{LegalAt, after, Legal, run_after}
use Rattle.dur_rerun.specs.Rerun.Kept.{AllFrom, IsBehind}
use Rattle.dur_rerun.proofs.Cuts.{extend_append, from_append, from_earlier, behind_grown}

-- a run later than another one: its history has more entries, none of which is earlier than the other's moment
pub record IsLater (r q : Run) : Type 0 where
  pub es : List Entry
  pub grown : q.history ≡ r.history +> es
  pub from : AllFrom r.moment es
  pub later : r.moment ≤ q.moment

pub later_same : (r q : Run) → q.history ≡ r.history → q.moment ≡ r.moment → IsLater r q
later_same r q history moment = record { es = []; grown = history; from = tt; later = omega (arith, moment) }

pub later_trans : (p q r : Run) → IsLater p q → IsLater q r → IsLater p r
later_trans p q r a b = record {
  es = a.es ++ b.es;
  grown = b.grown ∙ ap (λ (h : History). h +> b.es) a.grown ∙ sym (extend_append p.history a.es b.es);
  from = from_append p.moment a.es b.es a.from (from_earlier p.moment q.moment b.es a.later b.from);
  later = omega (arith, a.later, b.later);
}

next_at : (s : Story) (w : Guid) (m : ℕ) (e : Entry) → IsNext s w m e → m ≤ moment_of e
next_at s w m (Took at u k x) is = omega (arith, is.0)
next_at s w m (Skip at u from to) is = omega (arith, is.0)
next_at s w m (Lost at u) is = absurd is

handles_from : (s : Story) (h : History) (w : Guid) (m : ℕ) (es : List Entry) (end : End) → Handles s h w m es end → AllFrom m es
handles_from s h w m [] end is = tt
handles_from s h w m (e ∷ es) end is = (next_at s w m e is.0, handles_from (with_entry s e) (h ▸ e) w m es end is.3)

step_from : (r : Run) (s : Step) → LegalStep r s → AllFrom r.moment s.entries
step_from r s legal = from_by (speaker r s.fact) legal where
  from_by : (o : Option Writer) → HearsBy r s o → AllFrom r.moment s.entries
  from_by None is = subst (AllFrom r.moment) (sym is.0) tt
  from_by (Some w) is = handles_from _ r.history w.line.guid r.moment s.entries s.end is.handles

later_step : (r : Run) (s : Step) → LegalStep r s → IsLater r (after_step r s)
later_step r s legal = record { es = s.entries; grown = refl; from = step_from r s legal; later = omega arith }

later_steps : (r : Run) (ss : List Step) → LegalSteps r ss → IsLater r (after_steps r ss)
later_steps r [] legal = later_same r r refl refl
later_steps r (s ∷ ss) legal = later_trans r (after_step r s) (after_steps (after_step r s) ss) (later_step r s legal.0) (later_steps (after_step r s) ss legal.1)

losts_from : (m : ℕ) (gs : List Guid) → AllFrom m (map (Lost m) gs)
losts_from m [] = tt
losts_from m (g ∷ gs) = (omega arith, losts_from m gs)

later_lease : (r : Run) (n : ℕ) → IsLater r (after_lease r n)
later_lease r n = record { es = map (Lost r.moment) (take n (leavers r)); grown = refl; from = losts_from r.moment (take n (leavers r)); later = omega arith }

later_moment : (r : Run) (m : ℕ) → IsLater r (at_moment m r)
later_moment r m = record { es = []; grown = refl; from = tt; later = omega arith }

later_snapshot : (r : Run) (m n : ℕ) → IsLater r (after_lease (at_moment m r) n)
later_snapshot r m n = later_trans r (at_moment m r) (after_lease (at_moment m r) n) (later_moment r m) (later_lease (at_moment m r) n)

pub later_call : (r : Run) (e : Event) → LegalAt r e → IsLater r (after r e)
later_call r (call.Receive m lost steps cut stopped) legal =
    later_trans r (after_lease (at_moment m r) lost) (after_steps (after_lease (at_moment m r) lost) (steps ++ cut))
    (later_snapshot r m lost) (later_steps (after_lease (at_moment m r) lost) (steps ++ cut) legal.legal)
later_call r (call.Snapshot m g lost (Ok s)) legal =
    later_trans r (after_lease (at_moment m r) lost) (after r (call.Snapshot m g lost (Ok s))) (later_snapshot r m lost) (later_same _ _ refl refl)
later_call r (call.Snapshot m g lost (Err fault.OutOfMemory)) legal = later_snapshot r m lost
later_call r (call.Snapshot m g lost (Err fault.Unknown)) legal = later_same r r refl refl
later_call r (call.Snapshot m g lost (Err fault.NotServed)) legal = later_same r r refl refl
later_call r (call.Snapshot m g lost (Err fault.Already)) legal = later_same r r refl refl
later_call r (call.Take b) legal = later_same r (after r (call.Take b)) refl refl
later_call r (call.TakeView (Ok given)) legal = later_same r (after r (call.TakeView (Ok given))) refl refl
later_call r (call.TakeView (Err e)) legal = later_same r r refl refl
later_call r (call.Mark upto) legal = later_same r (after r (call.Mark upto)) refl refl
later_call r call.Stop legal = later_same r (after r call.Stop) refl refl
later_call r call.Leave legal = later_same r (after r call.Leave) refl refl
later_call r (call.State s) legal = later_same r r refl refl

pub later_calls : (r : Run) (es : List Event) → Legal r es → IsLater r (run_after r es)
later_calls r [] legal = later_same r r refl refl
later_calls r (e ∷ es) legal = later_trans r (after r e) (run_after (after r e) es) (later_call r e legal.0) (later_calls (after r e) es legal.1)

-- what is kept stands for a later run as well
pub behind_later : (kept : History) (r q : Run) → IsLater r q → q.taken ≡ r.taken → r.taken ≤ length (stored r.history) → IsBehind kept r.history r.taken r.moment → IsBehind kept q.history q.taken q.moment
behind_later kept r q is taken within behind =
    subst (λ n. IsBehind kept q.history n q.moment) (sym taken)
    (subst (λ (h : History). IsBehind kept h r.taken q.moment) (sym is.grown) (behind_grown kept r.history r.taken r.moment q.moment is.es within is.from is.later behind))

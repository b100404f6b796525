-- What a run counts.
use Rattle.std.proofs.Common.{◌≡◌, ℕ, ◌+◌, List, [], ◌∷◌, ◌++◌, length, refl, arith, length-append, Option, Some, None}
use Rattle.std.specs.Prelude.{Ok, Err}
use Rattle.dur_hub.specs.declared.event.End.{End}
use Rattle.dur_hub.specs.declared.event.End.TheVariants.{Waits, Refuses, Stopped}
use Rattle.dur_hub.specs.declared.event.Event.{Event}
use Rattle.dur_hub.specs.declared.event.Event.TheVariants as call
use Rattle.dur_hub.specs.declared.event.Step.{Step}
use Rattle.dur_hub.specs.declared.reply.Ack.{Ack}
use Rattle.dur_hub.specs.declared.reply.SnapFault.TheVariants as fault
use Rattle.dur_hub.specs.Runs.{Run}
use Rattle.dur_hub.specs.Leases.{after_lease, at_moment}
use Rattle.dur_hub.specs.Acks.{one_for}
use Rattle.dur_hub.specs.Steps.{one_refused, after_step, after_steps}
use Rattle.dur_hub.specs.Legal.{after, run_after}
use Rattle.dur_hub.specs.Handed.{ack_of, acks_of, acks_by, acks_in}
use Rattle.dur_hub.specs.Hearings.{address_of, writer_in, refusal_at, refusal_of, refusals_of}
use Rattle.dur_hub.specs.Readings.{refusals_by, refusals_in}

one_ack : (a : Option Ack) → length (ack_of a) ≡ one_for a
one_ack None = refl
one_ack (Some a) = refl

one_refusal : (w : List ℕ) (end : End) → length (refusal_at w end) ≡ one_refused end
one_refusal w Waits = refl
one_refusal w (Refuses n limit) = refl
one_refusal w Stopped = refl

pub acks_steps : (r : Run) (ss : List Step) → (after_steps r ss).acks ≡ r.acks + length (acks_of ss)
acks_steps r [] = omega arith
acks_steps r (s ∷ ss) =
    omega
    (arith, acks_steps (after_step r s) ss, length-append (ack_of s.ack) (acks_of ss), one_ack s.ack)

pub refused_steps : (r : Run) (ss : List Step)
    → (after_steps r ss).refused ≡ r.refused + length (refusals_of ss)
refused_steps r [] = omega arith
refused_steps r (s ∷ ss) =
    omega
    (arith, refused_steps (after_step r s) ss, length-append (refusal_of s) (refusals_of ss), one_refusal (writer_in (address_of s.fact)) s.end)

record Counted (r r' : Run) (e : Event) : Type 0 where
  acks : r'.acks ≡ r.acks + length (acks_by e)
  refused : r'.refused ≡ r.refused + length (refusals_by e)

counted : (r : Run) (e : Event) → Counted r (after r e) e
counted r (call.Receive m lost steps cut stopped) = record {
  acks = acks_steps (after_lease (at_moment m r) lost) (steps ++ cut);
  refused = refused_steps (after_lease (at_moment m r) lost) (steps ++ cut);
}
counted r (call.Snapshot m g lost (Ok s)) = record { acks = omega arith; refused = omega arith }
counted r (call.Snapshot m g lost (Err fault.OutOfMemory)) = record {
  acks = omega arith;
  refused = omega arith;
}
counted r (call.Snapshot m g lost (Err fault.Unknown)) = record {
  acks = omega arith;
  refused = omega arith;
}
counted r (call.Snapshot m g lost (Err fault.NotServed)) = record {
  acks = omega arith;
  refused = omega arith;
}
counted r (call.Snapshot m g lost (Err fault.Already)) = record {
  acks = omega arith;
  refused = omega arith;
}
counted r (call.Take b) = record { acks = omega arith; refused = omega arith }
counted r (call.TakeView (Ok given)) = record { acks = omega arith; refused = omega arith }
counted r (call.TakeView (Err e)) = record { acks = omega arith; refused = omega arith }
counted r (call.Mark upto) = record { acks = omega arith; refused = omega arith }
counted r call.Stop = record { acks = omega arith; refused = omega arith }
counted r call.Leave = record { acks = omega arith; refused = omega arith }
counted r (call.State s) = record { acks = omega arith; refused = omega arith }

pub law_acks : (r : Run) (es : List Event) → (run_after r es).acks ≡ r.acks + length (acks_in es)
law_acks r [] = omega arith
law_acks r (e ∷ es) =
    omega
    (arith, law_acks (after r e) es, (counted r e).acks, length-append (acks_by e) (acks_in es))

pub law_refused : (r : Run) (es : List Event)
    → (run_after r es).refused ≡ r.refused + length (refusals_in es)
law_refused r [] = omega arith
law_refused r (e ∷ es) =
    omega
    (arith, law_refused (after r e) es, (counted r e).refused, length-append (refusals_by e) (refusals_in es))

-- The records of a capture as they are read, behind a plan.
use Rattle.std.proofs.Common.{◌≡◌, ℕ, ◌≤◌, ◌^◌, List, [], ◌∷◌, ◌++◌, Bool, true, false, Option, None, Some, refl, sym, ap, subst, ◌∙◌, append_assoc, append-nil, length-append, arith, ◌⊎◌, inl, inr}
use Rattle.std.specs.Prelude.{IfSome}
use Rattle.std.specs.Io.KnownBytes.{Consumes, IsAtEnd}
use Rattle.std.proofs.KnownBytes.{Consumes-trans}
use Rattle.dur_capture.specs.declared.record.Record.{Record}
use Rattle.dur_capture.specs.declared.fault.CapFault.{CapFault}
use Rattle.dur_capture.specs.declared.fault.CapFault.TheVariants.{OutOfMemory}
use Rattle.dur_capture.specs.Feeding.{Feeding, Takes, Breaks}
use Rattle.dur_capture.specs.Whole.{Feeds, BreaksAt, CaptureWithin}
use Rattle.dur_capture.proofs.Runs.{takes_octets, goes_on, whole_is, stops_break, breaks_stay}
use Rattle.dur_rerun.specs.declared.status.Status.{Status}
use Rattle.dur_rerun.specs.declared.status.Status.TheVariants.{Done, Usage, OutOfMemory as Memory, Input, ReadFault, WriteFault, Plan, DiskFault, NotAJournal, PlanDiffers, Full, Worn, TooMany}
use Rattle.dur_rerun.specs.Input.Breaks.{place_at, EndsRecords, StopsRest}
use Rattle.dur_rerun.specs.Input.Records.{given, Ends, BreaksOff, StopsRecords}
use Rattle.dur_rerun.proofs.Commands.{if_any}
use Rattle.dur_rerun.proofs.Rest.{told, all_told}

-- ---- the feed

-- a feed from which nothing was handed out
pub feeds_first : (f : Feeding) → (f.before ≤ 2 ^ 40) × (f.taken ≡ 0) × (f.fault ≡ None) → Feeds f.before (f.left ++ []) [] f
feeds_first f fresh = record {
  splits = record { parts = append-nil f.left; each = tt };
  count = omega (arith, fresh.1, length-append f.left []);
  start = refl;
  within = omega (arith, fresh.0, fresh.1);
  sound = fresh.2;
}

-- the octets that a source gave to a feed
pub feeds_given : (before : ℕ) (octets seen piece : List ℕ) (rs : List Record) (f : Feeding) → Feeds before (octets ++ seen) rs f → Feeds before (octets ++ (seen ++ piece)) rs (given piece f)
feeds_given before octets seen piece rs f feeds = subst (λ (t : List ℕ). Feeds before t rs (given piece f)) (append_assoc octets seen piece) (takes_octets before (octets ++ seen) rs f piece feeds)

-- a record that was handed out
pub feeds_next : (before : ℕ) (octets seen piece : List ℕ) (rs : List Record) (f g : Feeding) (r : Record) → Feeds before (octets ++ seen) rs f → Takes (given piece f) r g → Feeds before (octets ++ (seen ++ piece)) (rs ++ r ∷ []) g
feeds_next before octets seen piece rs f g r feeds takes = goes_on before (octets ++ (seen ++ piece)) rs (given piece f) r g (feeds_given before octets seen piece rs f feeds) takes

-- at the end of the source all octets are the records that were handed out
pub ends_whole : (before : ℕ) (known mid now : Option (List ℕ)) (octets seen : List ℕ) (rs : List Record) (f g : Feeding) (P : List ℕ → Type 0) → Consumes known mid seen → Feeds before (octets ++ seen) rs f → Ends mid now f g
    → ((all : List ℕ) → CaptureWithin before all rs → P all) → IfSome known (λ tail. P (octets ++ tail))
ends_whole before known mid now octets seen rs f g P consumed feeds e holds =
    let fed = feeds_given before octets seen e.seen rs f feeds in
    let here : Feeds before (octets ++ (seen ++ e.seen)) rs g = subst (Feeds before (octets ++ (seen ++ e.seen)) rs) (sym e.given_is) fed in
    all_told known now (seen ++ e.seen) octets P (Consumes-trans known mid now seen e.seen consumed e.consumed) e.end
    (holds (octets ++ (seen ++ e.seen)) (whole_is before (octets ++ (seen ++ e.seen)) rs g here e.waits))

-- ---- where the capture breaks off

pub no_place : (e : CapFault) (place : ℕ) → place_at e ≡ Some place → e ≡ OutOfMemory → ⊥
no_place e place named memory = let none : None ≡ Some place = sym (ap place_at memory) ∙ named in absurd cc

break_is : (before : ℕ) (octets : List ℕ) (e : CapFault) (place : ℕ) (rs : List Record) (f : Feeding) → place_at e ≡ Some place → Feeds before octets rs f → (e ≡ OutOfMemory) ⊎ Breaks f true e → BreaksAt before octets true e
break_is before octets e place rs f named feeds b = elim b [
  | inl memory ↦ absurd (no_place e place named memory)
  | inr q ↦ record { records = rs; feed = f; feeds = feeds; breaks = q }
]

broken_seen : (before : ℕ) (known now : Option (List ℕ)) (octets seen : List ℕ) (ended : Bool) (e : CapFault) (place : ℕ) (rs : List Record) (f : Feeding) → place_at e ≡ Some place → Consumes known now seen → (ended ≡ true → IsAtEnd now)
    → Feeds before (octets ++ seen) rs f → (e ≡ OutOfMemory) ⊎ Breaks f ended e → IfSome known (λ tail. BreaksAt before (octets ++ tail) true e)
broken_seen before known now octets seen true e place rs f named consumed end feeds b =
    all_told known now seen octets (λ t. BreaksAt before t true e) consumed (end refl) (break_is before (octets ++ seen) e place rs f named feeds b)
broken_seen before known now octets seen false e place rs f named consumed end feeds b =
    told known now seen (λ tail. BreaksAt before (octets ++ tail) true e) consumed
    (λ more is. subst (λ (t : List ℕ). BreaksAt before t true e) (append_assoc octets seen more)
    (break_is before ((octets ++ seen) ++ more) e place rs (given more f) named (takes_octets before (octets ++ seen) rs f more feeds)
    (elim b [ inl m ↦ inl m | inr q ↦ inr (breaks_stay e f more q) ])))

broken_off : (before : ℕ) (known mid now : Option (List ℕ)) (octets seen : List ℕ) (e : CapFault) (place : ℕ) (rs : List Record) (f : Feeding) → place_at e ≡ Some place → Consumes known mid seen
    → Feeds before (octets ++ seen) rs f → BreaksOff mid now f e → IfSome known (λ tail. BreaksAt before (octets ++ tail) true e)
broken_off before known mid now octets seen e place rs f named consumed feeds b =
    let fed = feeds_given before octets seen b.seen rs f feeds in
    broken_seen before known now octets (seen ++ b.seen) b.ended e place rs (given b.seen f) named (Consumes-trans known mid now seen b.seen consumed b.consumed) b.end fed (stops_break e (given b.seen f) b.new b.ended fed.sound b.stops)

-- no record came
pub stops_rest : (status : Status) (before : ℕ) (known mid now : Option (List ℕ)) (octets seen : List ℕ) (rs : List Record) (f : Feeding) → Consumes known mid seen → Feeds before (octets ++ seen) rs f
    → EndsRecords status → StopsRecords mid now f status → IfSome known (λ tail. StopsRest before (octets ++ tail) status)
stops_rest (Input place fault) before known mid now octets seen rs f consumed feeds ends stops = broken_off before known mid now octets seen fault place rs f ends consumed feeds stops
stops_rest Memory before known mid now octets seen rs f consumed feeds ends stops = if_any known (λ tail. Unit {0}) (λ tail. tt)
stops_rest ReadFault before known mid now octets seen rs f consumed feeds ends stops = if_any known (λ tail. Unit {0}) (λ tail. tt)
stops_rest Done before known mid now octets seen rs f consumed feeds ends stops = absurd ends
stops_rest Usage before known mid now octets seen rs f consumed feeds ends stops = absurd ends
stops_rest DiskFault before known mid now octets seen rs f consumed feeds ends stops = absurd ends
stops_rest (NotAJournal file at') before known mid now octets seen rs f consumed feeds ends stops = absurd ends
stops_rest (PlanDiffers name) before known mid now octets seen rs f consumed feeds ends stops = absurd ends
stops_rest (Full size) before known mid now octets seen rs f consumed feeds ends stops = absurd ends
stops_rest Worn before known mid now octets seen rs f consumed feeds ends stops = absurd ends
stops_rest TooMany before known mid now octets seen rs f consumed feeds ends stops = absurd ends
stops_rest WriteFault before known mid now octets seen rs f consumed feeds ends stops = absurd ends
stops_rest (Plan line kind) before known mid now octets seen rs f consumed feeds ends stops = absurd ends

-- memory ran out
pub memory_rest : (before : ℕ) (known : Option (List ℕ)) (octets : List ℕ) (s : Status) → s ≡ Memory → EndsRecords s × IfSome known (λ tail. StopsRest before (octets ++ tail) s)
memory_rest before known octets s is = (
  subst EndsRecords (sym is) tt,
  if_any known (λ tail. StopsRest before (octets ++ tail) s) (λ tail. subst (StopsRest before (octets ++ tail)) (sym is) tt),
)

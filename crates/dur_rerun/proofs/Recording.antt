-- The records that were read of an input.
use Rattle.std.proofs.Common.{◌≡◌, ℕ, List, ◌++◌, Bool, true, false, Option, Some, None, refl, sym, subst, append_assoc, ◌⊎◌, inl, inr}
use Rattle.std.specs.Prelude.{IfSome, IfErr, Ok, Err}
use Rattle.std.specs.declared.result.Result.{Result}
use Rattle.dur_journal.specs.declared.state.Journal.{Journal}
use Rattle.std.specs.Io.KnownBytes.{Consumes, IsAtEnd}
use Rattle.std.proofs.KnownBytes.{Consumes-trans}
use Rattle.dur_capture.specs.declared.record.Record.{Record}
use Rattle.dur_capture.specs.declared.fault.CapFault.{CapFault}
use Rattle.dur_capture.specs.declared.fault.CapFault.TheVariants.{OutOfMemory}
use Rattle.dur_capture.specs.Feeding.{Feeding, Breaks}
use Rattle.dur_capture.specs.Whole.{Feeds, CaptureWithin}
use Rattle.dur_capture.proofs.Runs.{takes_octets, whole_is, stops_break, breaks_stay}
use Rattle.dur_rerun.specs.declared.status.Status.{Status}
use Rattle.dur_rerun.specs.declared.status.Status.TheVariants.{Done, Usage, OutOfMemory as Memory, Input, ReadFault, WriteFault, Plan, DiskFault, NotAJournal, PlanDiffers, Full, Worn, TooMany}
use Rattle.dur_rerun.specs.Input.Breaks.{place_at, EndsRecords}
use Rattle.dur_rerun.specs.Input.Records.{given, Ends, BreaksOff, StopsRecords}
use Rattle.dur_rerun.specs.Rerun.Answer.{BreaksBehind, ReadsAs}
use Rattle.dur_rerun.specs.Rerun.Services.{EndsHandling, ended}
use Rattle.dur_rerun.specs.Rerun.Stores.{EndsStoring}
use Rattle.dur_rerun.proofs.Rest.{told, all_told}
use Rattle.dur_rerun.proofs.Reading.{feeds_given, no_place}

abbrev Some_first : ℕ → List Record → List ℕ → Type 0
Some_first before rs octets = (f : Feeding) × Feeds before octets rs f

-- what was read of the octets seen was read of all
pub first_told : (known now : Option (List ℕ)) (before : ℕ) (octets seen : List ℕ) (rs : List Record) (f : Feeding) → Consumes known now seen → Feeds before (octets ++ seen) rs f → IfSome known (λ tail. Some_first before rs (octets ++ tail))
first_told known now before octets seen rs f consumed feeds =
    told known now seen (λ tail. Some_first before rs (octets ++ tail)) consumed (λ more is. (given more f, feeds_given before octets seen more rs f feeds))

-- at the end of the source nothing is left
pub whole_told : (known mid now : Option (List ℕ)) (before : ℕ) (octets seen : List ℕ) (rs : List Record) (f g : Feeding) → Consumes known mid seen → Feeds before (octets ++ seen) rs f → Ends mid now f g
    → IfSome known (λ tail. CaptureWithin before (octets ++ tail) rs)
whole_told known mid now before octets seen rs f g consumed feeds e =
    let fed = feeds_given before octets seen e.seen rs f feeds in
    let here : Feeds before (octets ++ (seen ++ e.seen)) rs g = subst (Feeds before (octets ++ (seen ++ e.seen)) rs) (sym e.given_is) fed in
    all_told known now (seen ++ e.seen) octets (λ t. CaptureWithin before t rs) (Consumes-trans known mid now seen e.seen consumed e.consumed) e.end (whole_is before (octets ++ (seen ++ e.seen)) rs g here e.waits)

pub ended_told : (known mid now : Option (List ℕ)) (before : ℕ) (octets seen : List ℕ) (rs : List Record) (f g : Feeding) → Consumes known mid seen → Feeds before (octets ++ seen) rs f → Ends mid now f g
    → IfSome known (λ tail. Some_first before rs (octets ++ tail))
ended_told known mid now before octets seen rs f g consumed feeds e =
    first_told known now before octets (seen ++ e.seen) rs (given e.seen f) (Consumes-trans known mid now seen e.seen consumed e.consumed) (feeds_given before octets seen e.seen rs f feeds)

-- ---- where the capture breaks off

behind_is : (before : ℕ) (octets : List ℕ) (e : CapFault) (place : ℕ) (rs : List Record) (f : Feeding) → place_at e ≡ Some place → Feeds before octets rs f → (e ≡ OutOfMemory) ⊎ Breaks f true e → BreaksBehind before octets rs e
behind_is before octets e place rs f named feeds b = elim b [
  | inl memory ↦ absurd (no_place e place named memory)
  | inr q ↦ record { feed = f; feeds = feeds; breaks = q }
]

behind_seen : (before : ℕ) (known now : Option (List ℕ)) (octets seen : List ℕ) (ended : Bool) (e : CapFault) (place : ℕ) (rs : List Record) (f : Feeding) → place_at e ≡ Some place → Consumes known now seen → (ended ≡ true → IsAtEnd now)
    → Feeds before (octets ++ seen) rs f → (e ≡ OutOfMemory) ⊎ Breaks f ended e → IfSome known (λ tail. BreaksBehind before (octets ++ tail) rs e)
behind_seen before known now octets seen true e place rs f named consumed end feeds b =
    all_told known now seen octets (λ t. BreaksBehind before t rs e) consumed (end refl) (behind_is before (octets ++ seen) e place rs f named feeds b)
behind_seen before known now octets seen false e place rs f named consumed end feeds b =
    told known now seen (λ tail. BreaksBehind before (octets ++ tail) rs e) consumed
    (λ more is. subst (λ (t : List ℕ). BreaksBehind before t rs e) (append_assoc octets seen more)
    (behind_is before ((octets ++ seen) ++ more) e place rs (given more f) named (takes_octets before (octets ++ seen) rs f more feeds)
    (elim b [ inl m ↦ inl m | inr q ↦ inr (breaks_stay e f more q) ])))

behind_off : (before : ℕ) (known mid now : Option (List ℕ)) (octets seen : List ℕ) (e : CapFault) (place : ℕ) (rs : List Record) (f : Feeding) → place_at e ≡ Some place → Consumes known mid seen
    → Feeds before (octets ++ seen) rs f → BreaksOff mid now f e → IfSome known (λ tail. BreaksBehind before (octets ++ tail) rs e)
behind_off before known mid now octets seen e place rs f named consumed feeds b =
    let fed = feeds_given before octets seen b.seen rs f feeds in
    behind_seen before known now octets (seen ++ b.seen) b.ended e place rs (given b.seen f) named (Consumes-trans known mid now seen b.seen consumed b.consumed) b.end fed (stops_break e (given b.seen f) b.new b.ended fed.sound b.stops)

both_told : (known : Option (List ℕ)) (P Q : List ℕ → Type 0) → ((t : List ℕ) → P t → Q t) → IfSome known P → IfSome known Q
both_told None P Q leads holds = tt
both_told (Some all) P Q leads holds = leads all holds

-- ---- by the status

-- no record came
pub stopped_reading : (s : Status) (before : ℕ) (known mid now : Option (List ℕ)) (octets seen : List ℕ) (rs : List Record) (f : Feeding) → Consumes known mid seen → Feeds before (octets ++ seen) rs f
    → EndsRecords s → StopsRecords mid now f s → IfSome known (λ tail. ReadsAs before (octets ++ tail) rs s)
stopped_reading (Input place fault) before known mid now octets seen rs f consumed feeds ends stops =
    both_told known (λ tail. BreaksBehind before (octets ++ tail) rs fault) (λ tail. ReadsAs before (octets ++ tail) rs (Input place fault)) (λ tail b. (ends, b)) (behind_off before known mid now octets seen fault place rs f ends consumed feeds stops)
stopped_reading Memory before known mid now octets seen rs f consumed feeds ends stops = first_told known mid before octets seen rs f consumed feeds
stopped_reading ReadFault before known mid now octets seen rs f consumed feeds ends stops = first_told known mid before octets seen rs f consumed feeds
stopped_reading Done before known mid now octets seen rs f consumed feeds ends stops = absurd ends
stopped_reading Usage before known mid now octets seen rs f consumed feeds ends stops = absurd ends
stopped_reading DiskFault before known mid now octets seen rs f consumed feeds ends stops = absurd ends
stopped_reading (NotAJournal file at') before known mid now octets seen rs f consumed feeds ends stops = absurd ends
stopped_reading (PlanDiffers name) before known mid now octets seen rs f consumed feeds ends stops = absurd ends
stopped_reading (Full size) before known mid now octets seen rs f consumed feeds ends stops = absurd ends
stopped_reading Worn before known mid now octets seen rs f consumed feeds ends stops = absurd ends
stopped_reading TooMany before known mid now octets seen rs f consumed feeds ends stops = absurd ends
stopped_reading WriteFault before known mid now octets seen rs f consumed feeds ends stops = absurd ends
stopped_reading (Plan line kind) before known mid now octets seen rs f consumed feeds ends stops = absurd ends

reads_first : (s : Status) (before : ℕ) (octets : List ℕ) (rs : List Record) → EndsHandling s → Some_first before rs octets → ReadsAs before octets rs s
reads_first Memory before octets rs ends first = first
reads_first WriteFault before octets rs ends first = first
reads_first DiskFault before octets rs ends first = first
reads_first (Full size) before octets rs ends first = first
reads_first Worn before octets rs ends first = first
reads_first TooMany before octets rs ends first = absurd ends
reads_first ReadFault before octets rs ends first = absurd ends
reads_first (Input place fault) before octets rs ends first = absurd ends
reads_first Done before octets rs ends first = absurd ends
reads_first Usage before octets rs ends first = absurd ends
reads_first (NotAJournal file at') before octets rs ends first = absurd ends
reads_first (PlanDiffers name) before octets rs ends first = absurd ends
reads_first (Plan line kind) before octets rs ends first = absurd ends

-- a record was not handled
pub stopped_handling : (s : Status) (known : Option (List ℕ)) (before : ℕ) (octets : List ℕ) (rs : List Record) → EndsHandling s → IfSome known (λ tail. Some_first before rs (octets ++ tail)) → IfSome known (λ tail. ReadsAs before (octets ++ tail) rs s)
stopped_handling s known before octets rs ends first = both_told known (λ tail. Some_first before rs (octets ++ tail)) (λ tail. ReadsAs before (octets ++ tail) rs s) (λ tail f. reads_first s before (octets ++ tail) rs ends f) first

pub storing_ends : (s : Status) → EndsStoring s → EndsHandling s
storing_ends Memory ends = tt
storing_ends DiskFault ends = tt
storing_ends (Full size) ends = tt
storing_ends Worn ends = tt
storing_ends TooMany ends = absurd ends
storing_ends WriteFault ends = absurd ends
storing_ends ReadFault ends = absurd ends
storing_ends (Input place fault) ends = absurd ends
storing_ends Done ends = absurd ends
storing_ends Usage ends = absurd ends
storing_ends (NotAJournal file at') ends = absurd ends
storing_ends (PlanDiffers name) ends = absurd ends
storing_ends (Plan line kind) ends = absurd ends

-- by what storing answered
pub last_reading : {D : Type 0} (result : Result (Journal D) (Status × D)) (known : Option (List ℕ)) (before : ℕ) (octets : List ℕ) (rs : List Record) → IfErr result (λ e. EndsStoring e.0)
    → IfSome known (λ tail. CaptureWithin before (octets ++ tail) rs) → IfSome known (λ tail. Some_first before rs (octets ++ tail)) → IfSome known (λ tail. ReadsAs before (octets ++ tail) rs (ended result))
last_reading (Ok last) known before octets rs ends whole first = whole
last_reading (Err e) known before octets rs ends whole first = stopped_handling e.0 known before octets rs (storing_ends e.0 ends) first

-- The records of a capture, handed to a hub as they are read.
use Rattle.std.proofs.Common.{◌≡◌, ℕ, ◌≤◌, ◌^◌, List, [], ◌∷◌, ◌++◌, Bool, true, false, Option, None, Some, refl, sym, ap, subst, ◌∙◌, append_assoc, append-nil, length-append, arith, ◌⊎◌, inl, inr}
use Rattle.std.specs.Prelude.{IfSome}
use Rattle.std.specs.Io.KnownBytes.{Consumes, IsAtEnd}
use Rattle.std.proofs.KnownBytes.{Consumes-trans}
use Rattle.dur_capture.specs.declared.record.Record.{Record}
use Rattle.dur_capture.specs.declared.fault.CapFault.{CapFault}
use Rattle.dur_capture.specs.declared.fault.CapFault.TheVariants.{OutOfMemory}
use Rattle.dur_capture.specs.Feeding.{Feeding, Takes, Breaks}
use Rattle.dur_capture.specs.Whole.{Feeds, BreaksAt}
use Rattle.dur_capture.proofs.Runs.{takes_octets, goes_on, whole_is, stops_break, breaks_stay}
use Rattle.dur_hub.specs.declared.event.Event.{Event}
use Rattle.dur_hub.specs.declared.hub.Hub.{Hub}
use Rattle.dur_hub.specs.Runs.{Run}
use Rattle.dur_hub.specs.Hubs.{Stands, Adds}
use Rattle.dur_rerun.specs.declared.status.Status.{Status}
use Rattle.dur_rerun.specs.declared.status.Status.TheVariants.{Done, Usage, OutOfMemory as Memory, Input, ReadFault, WriteFault, Plan, DiskFault, NotAJournal, PlanDiffers, Full, Worn, TooMany}
use Rattle.dur_rerun.specs.Admission.{BringAll}
use Rattle.dur_rerun.specs.Input.Breaks.{place_at, EndsRecords}
use Rattle.dur_rerun.specs.Input.Records.{given, Ends, BreaksOff, StopsRecords}
use Rattle.dur_rerun.specs.List.History.{TakesWhole}
use Rattle.dur_rerun.proofs.Commands.{if_any}
use Rattle.dur_rerun.proofs.Reading.{feeds_given}
use Rattle.dur_rerun.proofs.Rest.{all_told}

-- ---- the hub

-- one call more
pub adds_more : (first old new : Hub) (es : List Event) (e : Event) → ((start : Run) → Stands start [] first → Stands start es old) → Adds old e new → (start : Run) → Stands start [] first → Stands start (es ++ e ∷ []) new
adds_more first old new es e adds one start stands = one start es (adds start stands)

-- at the end of the source each record was handed over
pub takes_whole : (own : List ℕ) (before : ℕ) (known mid now : Option (List ℕ)) (octets seen : List ℕ) (rs : List Record) (f g : Feeding) (es : List Event) (first hub : Hub) → Consumes known mid seen → Feeds before (octets ++ seen) rs f → Ends mid now f g → BringAll own rs es
    → ((start : Run) → Stands start [] first → Stands start es hub) → IfSome known (λ tail. TakesWhole own before (octets ++ tail) first hub)
takes_whole own before known mid now octets seen rs f g es first hub consumed feeds e brings adds =
    let fed = feeds_given before octets seen e.seen rs f feeds in
    let here : Feeds before (octets ++ (seen ++ e.seen)) rs g = subst (Feeds before (octets ++ (seen ++ e.seen)) rs) (sym e.given_is) fed in
    all_told known now (seen ++ e.seen) octets (λ t. TakesWhole own before t first hub) (Consumes-trans known mid now seen e.seen consumed e.consumed) e.end
    (record { records = rs; capture = whole_is before (octets ++ (seen ++ e.seen)) rs g here e.waits; calls = es; brings = brings; adds = adds })

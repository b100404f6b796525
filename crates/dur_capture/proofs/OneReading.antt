-- Any octets have one reading.
use Rattle.std.proofs.Common.{◌≡◌, ℕ, List, ◌∷◌, [], ◌++◌, drop, sym, subst, refl, ◌⊎◌, inl, inr}
use Rattle.std.specs.Prelude.{◌+◌, true}
use Rattle.dur_capture.specs.declared.record.Record.{Record}
use Rattle.dur_capture.specs.declared.front.Head.{Head}
use Rattle.dur_capture.specs.declared.look.Seen.{Seen}
use Rattle.dur_capture.specs.declared.look.Seen.TheVariants as seen
use Rattle.dur_capture.specs.Feeding.{Feeding}
use Rattle.dur_capture.specs.Front.{record_of}
use Rattle.dur_capture.specs.Look.{after, Offers, Sees}
use Rattle.dur_capture.specs.Whole.{Feeds}
use Rattle.dur_capture.specs.OneReading.{SomeCapture, SomeBreak, HasOneReading}
use Rattle.dur_capture.proofs.Runs.{goes_on, whole_is, one_capture}
use Rattle.dur_capture.proofs.First.{no_break, one_first}

-- a record more was seen
pub one_seen : (before : ℕ) (octets : List ℕ) (rs : List Record) (f : Feeding) (head : Head) (left : List ℕ) → Feeds before octets rs f → Offers f head → left ≡ drop (14 + head.count) f.left
    → Feeds before octets (rs ++ record_of head f.left ∷ []) (record f { taken = f.taken + (14 + head.count); left = left })
one_seen before octets rs f head left fed offers is =
    subst (λ (l : List ℕ). let g : Feeding = record f { taken = f.taken + (14 + head.count); left = l } in Feeds before octets (rs ++ record_of head f.left ∷ []) g) (sym is)
    (goes_on before octets rs f (record_of head f.left) (after f (14 + head.count)) fed offers.takes)

either : (s : Seen) (before : ℕ) (octets : List ℕ) (rs : List Record) (f : Feeding) → Feeds before octets rs f → Sees f true s → ((head : Head) → s ≡ seen.Record head → ⊥) → SomeCapture before octets ⊎ SomeBreak before octets
either (seen.Record head) before octets rs f fed sees none = absurd (none head refl)
either seen.Waits before octets rs f fed sees none = inl (record { records = rs; capture = whole_is before octets rs f fed sees })
either (seen.Fault fault) before octets rs f fed sees none = inr (record { fault = fault; breaks = record { records = rs; feed = f; feeds = fed; breaks = sees } })

-- no record is seen
pub reads_once : (s : Seen) (before : ℕ) (octets : List ℕ) (rs : List Record) (f : Feeding) → Feeds before octets rs f → Sees f true s → ((head : Head) → s ≡ seen.Record head → ⊥) → HasOneReading before octets
reads_once s before octets rs f fed sees none = record {
  either = either s before octets rs f fed sees none;
  apart = λ x y. no_break y.fault before octets x.records x.capture y.breaks;
  one_capture = λ x y. one_capture before octets x.records y.records x.capture y.capture;
  one_break = λ x y. one_first x.fault y.fault before octets true x.breaks y.breaks;
}

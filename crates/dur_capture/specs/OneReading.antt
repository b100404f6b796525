-- That any octets have one reading.
use Rattle.std.specs.Prelude.{◌≡◌, ◌⊎◌, ℕ, List, true}
use Rattle.dur_capture.specs.declared.record.Record.{Record}
use Rattle.dur_capture.specs.declared.fault.CapFault.{CapFault}
use Rattle.dur_capture.specs.Whole.{CaptureWithin, BreaksAt}

-- the records of which the octets are the capture, after so many octets of input
pub record SomeCapture (before : ℕ) (octets : List ℕ) : Type 0 where
  pub records : List Record
  pub capture : CaptureWithin before octets records

-- the first break, where the input ends behind the octets
pub record SomeBreak (before : ℕ) (octets : List ℕ) : Type 0 where
  pub fault : CapFault
  pub breaks : BreaksAt before octets true fault

-- a capture or a break, never both, and one alone
pub record HasOneReading (before : ℕ) (octets : List ℕ) : Type 0 where
  pub either : SomeCapture before octets ⊎ SomeBreak before octets
  pub apart : SomeCapture before octets → SomeBreak before octets → ⊥
  pub one_capture : (x y : SomeCapture before octets) → x.records ≡ y.records
  pub one_break : (x y : SomeBreak before octets) → x.fault ≡ y.fault

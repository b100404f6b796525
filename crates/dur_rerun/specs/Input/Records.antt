-- What a feed hands out with a source behind it.
use Rattle.std.specs.Prelude.{◌≡◌, ℕ, ◌+◌, ◌<◌, ◌≤◌, max, Bool, true, false, List, [], ◌∷◌, ◌++◌, length}
use Rattle.std.specs.declared.option.Option.{Option}
use Rattle.std.specs.Io.KnownBytes.{Consumes, IsAtEnd}
use Rattle.dur_capture.specs.declared.record.Record.{Record}
use Rattle.dur_capture.specs.declared.fault.CapFault.{CapFault}
use Rattle.dur_capture.specs.Feeding.{Feeding, Takes, Waits, Stops}
use Rattle.dur_rerun.specs.declared.status.Status.{Status}
use Rattle.dur_rerun.specs.declared.status.Status.TheVariants.{Input}

-- how many octets of input came
abbrev pub total : Feeding → ℕ
total f = f.before + f.taken + length f.left

-- a feed with these octets more
abbrev pub given : List ℕ → Feeding → Feeding
given octets f = record f { left = f.left ++ octets }

-- a piece of the source was given to the feed, or the source is at its end
pub record Refills (known now : Option (List ℕ)) (old new : Feeding) (more : Bool) : Type 0 where
  pub piece : List ℕ
  pub consumed : Consumes known now piece
  pub given_is : new ≡ given piece old
  pub few : length piece ≤ 65536
  pub some : more ≡ true → 0 < length piece
  pub last : more ≡ false → (piece ≡ []) × IsAtEnd now

-- the record at the front of what was left, and of what was read to it, is handed out
pub record HandsOut (known now : Option (List ℕ)) (old : Feeding) (r : Record) (new : Feeding) : Type 0 where
  pub seen : List ℕ
  pub consumed : Consumes known now seen
  pub takes : Takes (given seen old) r new

-- the source is at its end, and nothing is left
pub record Ends (known now : Option (List ℕ)) (old new : Feeding) : Type 0 where
  pub seen : List ℕ
  pub consumed : Consumes known now seen
  pub given_is : new ≡ given seen old
  pub waits : Waits new true
  pub end : IsAtEnd now

-- what was left, with what was read to it, breaks off with this fault
pub record BreaksOff (known now : Option (List ℕ)) (old : Feeding) (fault : CapFault) : Type 0 where
  pub seen : List ℕ
  pub consumed : Consumes known now seen
  pub ended : Bool
  pub end : ended ≡ true → IsAtEnd now
  pub new : Feeding
  pub stops : Stops (given seen old) ended fault new

-- where the status is that of a break, it is this one
abbrev pub StopsRecords : Option (List ℕ) → Option (List ℕ) → Feeding → Status → Type 0
StopsRecords known now old (Input place fault) = BreaksOff known now old fault
StopsRecords known now old other = Unit {0}

-- the greatest moment of records, or 0 where there is none
abbrev pub latest : List Record → ℕ
latest [] = 0
latest (r ∷ rs) = max r.moment (latest rs)

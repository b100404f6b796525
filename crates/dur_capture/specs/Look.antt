-- What a look at a feed tells.
use Rattle.std.specs.Prelude.{ℕ, ◌+◌, ◌≤◌, Bool, length, drop}
use Rattle.dur_capture.specs.declared.front.Head.{Head}
use Rattle.dur_capture.specs.declared.look.Seen.{Seen}
use Rattle.dur_capture.specs.declared.look.Seen.TheVariants as seen
use Rattle.dur_capture.specs.Front.{record_of}
use Rattle.dur_capture.specs.Feeding.{Feeding, Takes, Waits, Breaks}

-- a feed without its first n octets
abbrev pub after : Feeding → ℕ → Feeding
after f n = record f { taken = f.taken + n; left = drop n f.left }

-- a record with this head stands at the front
pub record Offers (f : Feeding) (head : Head) : Type 0 where
  pub takes : Takes f (record_of head f.left) (after f (14 + head.count))
  pub body : 14 + head.count ≤ length f.left

abbrev pub Sees : Feeding → Bool → Seen → Type 0
Sees f ended (seen.Record head) = Offers f head
Sees f ended seen.Waits = Waits f ended
Sees f ended (seen.Fault fault) = Breaks f ended fault

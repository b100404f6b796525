-- What stands at the front of octets, by the places of the fields.
use Rattle.std.specs.Prelude.{◌≡◌, ℕ, ◌+◌, ◌≤◌, List, length, take, drop, slice_range}
use Rattle.std.specs.Int.{w16, w64, from_le_bytes}
use Rattle.dur_capture.specs.declared.record.Record.{Record}
use Rattle.dur_capture.specs.declared.front.Head.{Head}
use Rattle.dur_capture.specs.declared.front.Front.{Front}
use Rattle.dur_capture.specs.declared.front.Front.TheVariants.{Whole, Long, Part}
use Rattle.dur_capture.specs.Capture.{Fits, count_at, IsPart, IsLong}

-- the record at the front
abbrev pub record_here : List ℕ → Record
record_here bytes = record {
  moment = from_le_bytes w64 (slice_range bytes 0 8);
  port = from_le_bytes w16 (slice_range bytes 8 10);
  bytes = take (count_at bytes) (drop 14 bytes);
}

-- the record at the front, where this is its head
abbrev pub record_of : Head → List ℕ → Record
record_of head bytes = record { moment = head.moment; port = head.port; bytes = take head.count (drop 14 bytes) }

-- a whole record stands at the front
pub record IsWhole (bytes : List ℕ) : Type 0 where
  pub head : 14 ≤ length bytes
  pub short : count_at bytes ≤ 65507
  pub body : 14 + count_at bytes ≤ length bytes

-- and this is its head
pub record HasHead (bytes : List ℕ) (head : Head) : Type 0 where
  pub whole : IsWhole bytes
  pub count : head.count ≡ count_at bytes
  pub here : record_here bytes ≡ record_of head bytes
  pub fits : Fits (record_of head bytes)

abbrev pub IsFront : List ℕ → Front → Type 0
IsFront bytes (Whole head) = HasHead bytes head
IsFront bytes Long = IsLong bytes
IsFront bytes Part = IsPart bytes

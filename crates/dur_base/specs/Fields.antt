-- Numbers as fields of a text, in either byte order.
use Rattle.std.specs.Prelude.{ℕ, ◌+◌, ◌*◌, ◌/◌, ◌%◌, ◌^◌, Bool, List, ◌++◌, take, drop, if◌then◌else◌}
use Rattle.std.specs.Int.{Width, w32, from_le_bytes, from_be_bytes, to_le_bytes, to_be_bytes}

-- the number that the octets spell
unfoldable pub number : Bool → Width → List ℕ → ℕ
number little w bytes = if little then from_le_bytes w bytes else from_be_bytes w bytes

-- the octets of a number
unfoldable pub octets : Bool → Width → ℕ → List ℕ
octets little w n = if little then to_le_bytes w n else to_be_bytes w n

-- A sequence number (DDSI-RTPS 9.3.2.10): its high half of 32 bits, and then its low half. The high half has a sign: a
-- negative number is here one of 2 ^ 63 or more.
unfoldable pub sequence : Bool → List ℕ → ℕ
sequence little bytes = number little w32 (take 4 bytes) * 2 ^ 32 + number little w32 (take 4 (drop 4 bytes))

unfoldable pub sequence_octets : Bool → ℕ → List ℕ
sequence_octets little n = octets little w32 (n / 2 ^ 32) ++ octets little w32 (n % 2 ^ 32)

-- Numbers and their octets.
use Rattle.std.proofs.Common.{◌≡◌, ℕ, ◌+◌, ◌*◌, ◌/◌, ◌%◌, ◌^◌, ◌<◌, Bool, true, false, List, ◌++◌, length, take, drop, refl, length-append, append_assoc, arith}
use Rattle.std.specs.Int.{w16, w32, w64}
use Rattle.std.proofs.lemmas.List.{take_at, drop_at, take_all, take-append-drop, length-take, length-drop}
use Rattle.std.proofs.lemmas.Nat.{be_bytes_2, be_bytes_4, be_bytes_8, le_bytes_2, le_bytes_4, le_bytes_8}
use Rattle.std.proofs.lemmas.Nat.{from_be_bytes-to_be_bytes_2, from_be_bytes-to_be_bytes_4, from_be_bytes-to_be_bytes_8, from_le_bytes-to_le_bytes_2, from_le_bytes-to_le_bytes_4, from_le_bytes-to_le_bytes_8}
use Rattle.dur_base.proofs.OctetLists.{IsBytes, IsBytes-take, IsBytes-drop}
use Rattle.dur_base.specs.Fields.{number, octets, sequence, sequence_octets}

pub length_16 : (little : Bool) (n : ℕ) → length (octets little w16 n) ≡ 2
unfolding octets
length_16 true n = refl
length_16 false n = refl

pub length_32 : (little : Bool) (n : ℕ) → length (octets little w32 n) ≡ 4
unfolding octets
length_32 true n = refl
length_32 false n = refl

pub back_16 : (little : Bool) (bytes : List ℕ) → length bytes ≡ 2 → IsBytes bytes → octets little w16 (number little w16 bytes) ≡ bytes
unfolding octets number
back_16 true bytes len fits = le_bytes_2 bytes _ len fits refl
back_16 false bytes len fits = be_bytes_2 bytes _ len fits refl

pub again_16 : (little : Bool) (n : ℕ) → n < 2 ^ 16 → number little w16 (octets little w16 n) ≡ n
unfolding octets number
again_16 true n lt = from_le_bytes-to_le_bytes_2 n lt
again_16 false n lt = from_be_bytes-to_be_bytes_2 n lt

pub below_16 : (little : Bool) (bytes : List ℕ) → IsBytes bytes → number little w16 bytes < 2 ^ 16
unfolding number
below_16 true bytes fits = omega (arith, fits 0, fits 1)
below_16 false bytes fits = omega (arith, fits 0, fits 1)

pub again_32 : (little : Bool) (n : ℕ) → n < 2 ^ 32 → number little w32 (octets little w32 n) ≡ n
unfolding octets number
again_32 true n lt = from_le_bytes-to_le_bytes_4 n lt
again_32 false n lt = from_be_bytes-to_be_bytes_4 n lt

pub back_32 : (little : Bool) (bytes : List ℕ) → length bytes ≡ 4 → IsBytes bytes → octets little w32 (number little w32 bytes) ≡ bytes
unfolding octets number
back_32 true bytes len fits = le_bytes_4 bytes _ len fits refl
back_32 false bytes len fits = be_bytes_4 bytes _ len fits refl

pub below_32 : (little : Bool) (bytes : List ℕ) → IsBytes bytes → number little w32 bytes < 2 ^ 32
unfolding number
below_32 true bytes fits = omega (arith, fits 0, fits 1, fits 2, fits 3)
below_32 false bytes fits = omega (arith, fits 0, fits 1, fits 2, fits 3)

pub length_64 : (little : Bool) (n : ℕ) → length (octets little w64 n) ≡ 8
unfolding octets
length_64 true n = refl
length_64 false n = refl

pub again_64 : (little : Bool) (n : ℕ) → n < 2 ^ 64 → number little w64 (octets little w64 n) ≡ n
unfolding octets number
again_64 true n lt = from_le_bytes-to_le_bytes_8 n lt
again_64 false n lt = from_be_bytes-to_be_bytes_8 n lt

pub back_64 : (little : Bool) (bytes : List ℕ) → length bytes ≡ 8 → IsBytes bytes → octets little w64 (number little w64 bytes) ≡ bytes
unfolding octets number
back_64 true bytes len fits = le_bytes_8 bytes _ len fits refl
back_64 false bytes len fits = be_bytes_8 bytes _ len fits refl

-- a sequence number's octets, read again and written back
pub length_sequence : (little : Bool) (n : ℕ) → length (sequence_octets little n) ≡ 8
unfolding sequence_octets
length_sequence little n = omega (arith, length-append (octets little w32 (n / 2 ^ 32)) (octets little w32 (n % 2 ^ 32)), length_32 little (n / 2 ^ 32), length_32 little (n % 2 ^ 32))

pub sequence_again : (little : Bool) (n : ℕ) (more : List ℕ) → n < 2 ^ 64 → sequence little (sequence_octets little n ++ more) ≡ n
unfolding sequence sequence_octets
sequence_again little n more lt =
    let high = octets little w32 (n / 2 ^ 32) in
    let low = octets little w32 (n % 2 ^ 32) in
    rw (append_assoc high low more, take_at high (low ++ more) 4 (length_32 little (n / 2 ^ 32)), drop_at high (low ++ more) 4 (length_32 little (n / 2 ^ 32)), take_at low more 4 (length_32 little (n % 2 ^ 32)), again_32 little (n / 2 ^ 32) (omega arith), again_32 little (n % 2 ^ 32) (omega arith)) (omega arith)

pub sequence_back : (little : Bool) (bytes : List ℕ) → length bytes ≡ 8 → IsBytes bytes → sequence_octets little (sequence little bytes) ≡ bytes
unfolding sequence sequence_octets
sequence_back little bytes len fits =
    let high = number little w32 (take 4 bytes) in
    let low = number little w32 (take 4 (drop 4 bytes)) in
    let small : low < 2 ^ 32 = below_32 little (take 4 (drop 4 bytes)) (IsBytes-take 4 (drop 4 bytes) (IsBytes-drop 4 bytes fits)) in
    let up : (high * 2 ^ 32 + low) / 2 ^ 32 ≡ high = omega (arith, small) in
    let down : (high * 2 ^ 32 + low) % 2 ^ 32 ≡ low = omega (arith, small) in
    let first : length (take 4 bytes) ≡ 4 = omega (arith, length-take 4 bytes, len) in
    let second : length (take 4 (drop 4 bytes)) ≡ 4 = omega (arith, length-take 4 (drop 4 bytes), length-drop 4 bytes, len) in
    let whole : take 4 (drop 4 bytes) ≡ drop 4 bytes = take_all 4 (drop 4 bytes) (omega (arith, length-drop 4 bytes, len)) in
    rw (up, down, back_32 little (take 4 bytes) first (IsBytes-take 4 bytes fits), back_32 little (take 4 (drop 4 bytes)) second (IsBytes-take 4 (drop 4 bytes) (IsBytes-drop 4 bytes fits)), whole) (take-append-drop 4 bytes)

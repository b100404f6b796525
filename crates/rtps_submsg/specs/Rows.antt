-- The table of submessages: the fields of each body in order, and what they tell.
use Rattle.std.specs.Prelude.{ℕ, ◌+◌, ◌*◌, ◌/◌, ◌^◌, Bool, true, false, List, [], ◌++◌, zero, suc, Option, Some, None, nat_lt, nat_le, ◌==◌, ◌&&◌, ◌||◌, bit_and, if◌then◌else◌}
use Rattle.std.specs.Int.{w32}
use Rattle.dur_base.specs.Fields.{number, sequence}
use Rattle.dur_base.specs.NumberSets.{NumberSet, set_of}
use Rattle.rtps_submsg.specs.declared.sub.Sub.{Sub}
use Rattle.rtps_submsg.specs.declared.sub.Sub.TheVariants.{Pad, InfoTs, InfoDst, InfoSrc, Heartbeat, AckNack, Gap, Other}
use Rattle.rtps_submsg.specs.declared.sub.SubKind.TheVariants.{BadNumber, BadSet, BadRange}
use Rattle.rtps_submsg.specs.Grammar.{Bad, Rule, Row, ends, field, any, only_if}
use Rattle.rtps_submsg.specs.Sets.{words_of}

-- a flag is set
abbrev pub has : ℕ → ℕ → Bool
has flags flag = if bit_and flags flag == 0 then false else true

-- a number from 1 to 2 ^ 63 - 1; a negative one is 2 ^ 63 or more
abbrev pub is_number : ℕ → Bool
is_number n = nat_le 1 n && nat_lt n (2 ^ 63)

abbrev pub number_rule : Bool → Rule
number_rule little text rest = only_if (is_number (sequence little text)) BadNumber

-- ---- sets

-- a base from 1 on; that of an ACKNACK may be 0
abbrev pub base_rule : Bool → Bool → Rule
base_rule little is_ack text rest = only_if (is_number (sequence little text) || is_ack && sequence little text == 0) BadSet

-- At most 256 bits. Behind a base of 0 there are none, and where there are, the base is bad.
abbrev pub bits_bad : ℕ → ℕ → Option Bad
bits_bad base bits = if base == 0 then (if bits == 0 then None else Some (record { back = 8; kind = BadSet })) else only_if (nat_le bits 256) BadSet

abbrev pub bits_rule : Bool → ℕ → Rule
bits_rule little base text rest = bits_bad base (number little w32 text)

-- that many words, each of which is a field
abbrev pub words_row : ℕ → (List ℕ → Row Sub) → Row Sub
words_row zero next = next []
words_row (suc n) next = field 4 any (λ word. words_row n (λ words. next (word ++ words)))

-- a base of 0 reads as 1
abbrev pub base_read : ℕ → ℕ
base_read base = if base == 0 then 1 else base

-- what the words behind a base and numBits tell
abbrev pub bits_row : Bool → ℕ → ℕ → (NumberSet → Row Sub) → Row Sub
bits_row little base bits next = words_row ((bits + 31) / 32) (λ words. next (set_of (base_read base) (words_of little bits words)))

-- base 8, numBits 4, and as many words as hold the bits
abbrev pub set_row : Bool → Bool → (NumberSet → Row Sub) → Row Sub
set_row little is_ack next =
    field 8 (base_rule little is_ack) (λ base.
    field 4 (bits_rule little (sequence little base)) (λ bits.
    bits_row little (sequence little base) (number little w32 bits) next))

-- ---- the table

-- 06 ACKNACK (DDSI-RTPS 9.4.5.2): readerId 4, writerId 4, set, count 4; flag F 02
abbrev pub acknack_row : Bool → ℕ → Row Sub
acknack_row little flags =
    field 4 any (λ reader.
    field 4 any (λ writer.
    set_row little true (λ set.
    field 4 any (λ count.
    ends (AckNack reader writer set (number little w32 count) (has flags 0x02))))))

-- lastSN, which is not below firstSN - 1
abbrev pub last_rule : Bool → ℕ → Rule
last_rule little first text rest = only_if (nat_lt (sequence little text) (2 ^ 63) && nat_le first (sequence little text + 1)) BadRange

-- 07 HEARTBEAT (DDSI-RTPS 9.4.5.7): readerId 4, writerId 4, firstSN 8, lastSN 8, count 4; flags F 02, L 04
abbrev pub heartbeat_row : Bool → ℕ → Row Sub
heartbeat_row little flags =
    field 4 any (λ reader.
    field 4 any (λ writer.
    field 8 (number_rule little) (λ first.
    field 8 (last_rule little (sequence little first)) (λ last.
    field 4 any (λ count.
    ends (Heartbeat reader writer (sequence little first) (sequence little last) (number little w32 count) (has flags 0x02) (has flags 0x04)))))))

-- 08 GAP: readerId 4, writerId 4, gapStart 8, set
abbrev pub gap_row : Bool → Row Sub
gap_row little =
    field 4 any (λ reader.
    field 4 any (λ writer.
    field 8 (number_rule little) (λ start.
    set_row little false (λ set.
    ends (Gap reader writer (sequence little start) set)))))

-- 09 INFO_TS: seconds u32, fraction u32; nothing where flag I 02 is set
abbrev pub info_ts_row : Bool → ℕ → Row Sub
info_ts_row little flags =
    if has flags 0x02 then ends (InfoTs None)
    else field 4 any (λ seconds.
    field 4 any (λ fraction.
    ends (InfoTs (Some (number little w32 seconds * 2 ^ 32 + number little w32 fraction)))))

-- 0c INFO_SRC: unused 4, version 2, vendor 2, prefix 12
abbrev pub info_src_row : Row Sub
info_src_row = field 4 any (λ unused. field 2 any (λ version. field 2 any (λ vendor. field 12 any (λ prefix. ends (InfoSrc prefix)))))

-- 0e INFO_DST: prefix 12
abbrev pub info_dst_row : Row Sub
info_dst_row = field 12 any (λ prefix. ends (InfoDst prefix))

-- every id but DATA's; what has no row is passed over
abbrev pub row_of : Bool → ℕ → ℕ → Row Sub
row_of little flags id =
    if id == 0x01 then ends Pad
    else if id == 0x06 then acknack_row little flags
    else if id == 0x07 then heartbeat_row little flags
    else if id == 0x08 then gap_row little
    else if id == 0x09 then info_ts_row little flags
    else if id == 0x0c then info_src_row
    else if id == 0x0e then info_dst_row
    else ends (Other id)

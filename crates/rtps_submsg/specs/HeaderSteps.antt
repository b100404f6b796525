-- The steps that the reader of a header takes. They are proved to find what the grammar says.
use Rattle.std.specs.Prelude.{◌≡◌, ℕ, List, length, take, drop, slice_index, Result, Ok, Err, nat_lt, if◌then◌else◌}
use Rattle.std.specs.Int.{w16}
use Rattle.dur_base.specs.Fields.{number}
use Rattle.rtps_submsg.specs.declared.reading.Frame.{Frame}
use Rattle.rtps_submsg.specs.declared.sub.SubFault.{SubFault}
use Rattle.rtps_submsg.specs.declared.sub.SubKind.{SubKind}
use Rattle.rtps_submsg.specs.declared.sub.SubKind.TheVariants.{Cut, BothDataAndKey}
use Rattle.rtps_submsg.specs.Headers.{Framed, has_both, extent}
use Rattle.rtps_submsg.specs.Rows.{has}

-- what a function returned, seen as a frame, is what reading gives
abbrev pub GivesFrame : Result Frame SubFault → Result Framed SubFault → Type 0
GivesFrame (Ok f) read = read ≡ Ok (record { id = f.id; flags = f.flags; body = f.body.now })
GivesFrame (Err e) read = read ≡ Err e

abbrev pub fault : ℕ → SubKind → Result Framed SubFault
fault at kind = Err (record { at = at; kind = kind })

abbrev pub framed : ℕ → ℕ → ℕ → List ℕ → Result Framed SubFault
framed id flags len rest =
    if has_both id flags then fault 1 BothDataAndKey
    else if nat_lt (length rest) (extent id len (length rest)) then fault 4 Cut
    else Ok (record { id = id; flags = flags; body = take (extent id len (length rest)) rest })

-- Header, 4 octets: id, flags, octetsToNextHeader (u16). Flag 01 is little-endian.
unfoldable pub framed_at : List ℕ → Result Framed SubFault
framed_at bytes =
    if nat_lt (length bytes) 4 then fault 0 Cut
    else framed (slice_index bytes 0) (slice_index bytes 1) (number (has (slice_index bytes 1) 0x01) w16 (take 2 (drop 2 bytes))) (drop 4 bytes)

-- The steps that the readers of the bodies take. They are proved to find what the grammar says.
use Rattle.std.specs.Prelude.{ℕ, ◌+◌, ◌*◌, ◌^◌, Bool, true, false, List, Some, None, Result, Ok, nat_lt, nat_le, ◌&&◌, ◌==◌, if◌then◌else◌}
use Rattle.rtps_submsg.specs.declared.field.Broken.{Broken}
use Rattle.rtps_submsg.specs.declared.sub.Sub.{Sub}
use Rattle.rtps_submsg.specs.declared.sub.Sub.TheVariants.{Pad, Other, InfoTs, InfoDst, InfoSrc, Heartbeat, AckNack, Gap}
use Rattle.rtps_submsg.specs.declared.sub.SubKind.TheVariants.{BadRange}
use Rattle.rtps_submsg.specs.FieldSteps.{◌>>=◌, breaks, field_at, u32_at, sequence_at, number_at}
use Rattle.rtps_submsg.specs.Rows.{has}
use Rattle.rtps_submsg.specs.SetSteps.{set_at}

-- 06 ACKNACK: readerId 4, writerId 4, set, count 4; flag F 02
unfoldable pub acknack_at : Bool → ℕ → List ℕ → Result Sub Broken
acknack_at little flags body = do
  reader ← field_at 4 body
  writer ← field_at 4 reader.1
  set ← set_at little true writer.1
  count ← u32_at little set.1
  Ok (AckNack reader.0 writer.0 set.0 count.0 (has flags 0x02))

-- a lastSN, which is not below firstSN - 1
unfoldable pub last_at : Bool → ℕ → List ℕ → Result (ℕ × List ℕ) Broken
last_at little first rest = do
  last ← sequence_at little rest
  if nat_lt last.0 (2 ^ 63) && nat_le first (last.0 + 1) then Ok last else breaks rest BadRange

-- 07 HEARTBEAT: readerId 4, writerId 4, firstSN 8, lastSN 8, count 4; flags F 02, L 04
unfoldable pub heartbeat_at : Bool → ℕ → List ℕ → Result Sub Broken
heartbeat_at little flags body = do
  reader ← field_at 4 body
  writer ← field_at 4 reader.1
  first ← number_at little writer.1
  last ← last_at little first.0 first.1
  count ← u32_at little last.1
  Ok (Heartbeat reader.0 writer.0 first.0 last.0 count.0 (has flags 0x02) (has flags 0x04))

-- 08 GAP: readerId 4, writerId 4, gapStart 8, set
unfoldable pub gap_at : Bool → List ℕ → Result Sub Broken
gap_at little body = do
  reader ← field_at 4 body
  writer ← field_at 4 reader.1
  start ← number_at little writer.1
  set ← set_at little false start.1
  Ok (Gap reader.0 writer.0 start.0 set.0)

-- 09 INFO_TS: seconds u32, fraction u32; nothing where flag I 02 is set
unfoldable pub info_ts_at : Bool → ℕ → List ℕ → Result Sub Broken
info_ts_at little flags body =
    if has flags 0x02 then Ok (InfoTs None)
    else (u32_at little body >>= λ seconds. u32_at little seconds.1 >>= λ fraction. Ok (InfoTs (Some (seconds.0 * 2 ^ 32 + fraction.0))))

-- 0c INFO_SRC: unused 4, version 2, vendor 2, prefix 12
unfoldable pub info_src_at : List ℕ → Result Sub Broken
info_src_at body = do
  unused ← field_at 4 body
  version ← field_at 2 unused.1
  vendor ← field_at 2 version.1
  prefix ← field_at 12 vendor.1
  Ok (InfoSrc prefix.0)

-- 0e INFO_DST: prefix 12
unfoldable pub info_dst_at : List ℕ → Result Sub Broken
info_dst_at body = do
  prefix ← field_at 12 body
  Ok (InfoDst prefix.0)

-- every id but DATA's
unfoldable pub plain_at : Bool → ℕ → ℕ → List ℕ → Result Sub Broken
plain_at little flags id body =
    if id == 0x01 then Ok Pad
    else if id == 0x06 then acknack_at little flags body
    else if id == 0x07 then heartbeat_at little flags body
    else if id == 0x08 then gap_at little body
    else if id == 0x09 then info_ts_at little flags body
    else if id == 0x0c then info_src_at body
    else if id == 0x0e then info_dst_at body
    else Ok (Other id)

-- The steps that the reader of a DATA's head takes. They are proved to find what the grammar says.
use Rattle.std.specs.Prelude.{◌≡◌, ℕ, Bool, List, length, drop, Result, Ok, Err, nat_le, ◌&&◌, if◌then◌else◌}
use Rattle.rtps_submsg.specs.declared.data.Head.{Head as Read}
use Rattle.rtps_submsg.specs.declared.field.Broken.{Broken}
use Rattle.rtps_submsg.specs.declared.sub.SubKind.TheVariants.{BadOffset}
use Rattle.rtps_submsg.specs.Data.{Head}
use Rattle.rtps_submsg.specs.FieldSteps.{◌>>=◌, breaks, field_at, u16_at, sample_number_at}

-- what a function returned, seen as a head, is what reading gives
abbrev pub GivesHead : Result Read Broken → Result Head Broken → Type 0
GivesHead (Ok h) read = read ≡ Ok (record { reader = h.reader; writer = h.writer; number = h.number; behind = h.behind.now })
GivesHead (Err e) read = read ≡ Err e

-- octetsToInlineQos, at least 16 and not past the body
unfoldable pub offset_at : Bool → List ℕ → Result (ℕ × List ℕ) Broken
offset_at little rest = do
  offset ← u16_at little rest
  if nat_le 16 offset.0 && nat_le offset.0 (length offset.1) then Ok offset else breaks rest BadOffset

-- 15 DATA: extraFlags u16, octetsToInlineQos u16, readerId 4, writerId 4, writerSN 8
unfoldable pub head_at : Bool → List ℕ → Result Head Broken
head_at little body = do
  extra ← field_at 2 body
  offset ← offset_at little extra.1
  reader ← field_at 4 offset.1
  writer ← field_at 4 reader.1
  number ← sample_number_at little writer.1
  Ok (record { reader = reader.0; writer = writer.0; number = number.0; behind = drop offset.0 offset.1 })

-- Reading the fields of a body from left to right, up to the first that breaks.
use Rattle.std.specs.Prelude.{◌≡◌, ℕ, ◌-◌, ◌^◌, Bool, List, length, take, drop, Result, Ok, Err, nat_lt, nat_le, ◌&&◌, if◌then◌else◌}
use Rattle.std.specs.Int.{w16, w32}
use Rattle.dur_base.specs.Fields.{number, sequence}
use Rattle.rtps_submsg.specs.declared.field.Broken.{Broken}
use Rattle.rtps_submsg.specs.declared.sub.SubKind.{SubKind}
use Rattle.rtps_submsg.specs.declared.sub.SubKind.TheVariants.{Cut, BadNumber}

infixl 10 ◌>>=◌
abbrev pub ◌>>=◌ : {A B : Type 0} → Result A Broken → (A → Result B Broken) → Result B Broken
(Ok x) >>= f = f x
(Err e) >>= f = Err e

-- what a function returned, seen by view, and what it left are what reading gives
abbrev pub Reads : {X Y : Type 0} → (X → Y) → Result X Broken → List ℕ → Result (Y × List ℕ) Broken → Type 0
Reads view (Ok x) rest read = read ≡ Ok (view x, rest)
Reads view (Err e) rest read = read ≡ Err e

abbrev pub Gives : {Y : Type 0} → Result Y Broken → Result Y Broken → Type 0
Gives (Ok x) read = read ≡ Ok x
Gives (Err e) read = read ≡ Err e

-- the field that begins here breaks
abbrev pub breaks : {A : Type 0} → List ℕ → SubKind → Result A Broken
breaks rest kind = Err (record { left = length rest; kind = kind })

-- a field of that many octets, and what follows it
unfoldable pub field_at : ℕ → List ℕ → Result (List ℕ × List ℕ) Broken
field_at width rest = if nat_lt (length rest) width then breaks rest Cut else Ok (take width rest, drop width rest)

unfoldable pub u16_at : Bool → List ℕ → Result (ℕ × List ℕ) Broken
u16_at little rest = do
  f ← field_at 2 rest
  Ok (number little w16 f.0, f.1)

unfoldable pub u32_at : Bool → List ℕ → Result (ℕ × List ℕ) Broken
u32_at little rest = do
  f ← field_at 4 rest
  Ok (number little w32 f.0, f.1)

unfoldable pub sequence_at : Bool → List ℕ → Result (ℕ × List ℕ) Broken
sequence_at little rest = do
  f ← field_at 8 rest
  Ok (sequence little f.0, f.1)

-- a number from 1 to 2 ^ 63 - 1
unfoldable pub number_at : Bool → List ℕ → Result (ℕ × List ℕ) Broken
number_at little rest = do
  n ← sequence_at little rest
  if nat_le 1 n.0 && nat_lt n.0 (2 ^ 63) then Ok n else breaks rest BadNumber

-- a number from 1 to 2 ^ 63 - 2
unfoldable pub sample_number_at : Bool → List ℕ → Result (ℕ × List ℕ) Broken
sample_number_at little rest = do
  n ← number_at little rest
  if nat_le n.0 (2 ^ 63 - 2) then Ok n else breaks rest BadNumber

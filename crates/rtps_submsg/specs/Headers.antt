-- The header of a submessage, and the body that belongs to it (DDSI-RTPS 9.4.5.1).
use Rattle.std.specs.Prelude.{◌≡◌, ◌⊎◌, ℕ, ◌<◌, ◌^◌, Bool, true, false, List, ◌∷◌, ◌++◌, length, ◌==◌, ◌&&◌, ◌||◌, if◌then◌else◌}
use Rattle.std.specs.Int.{w16}
use Rattle.dur_base.specs.Fields.{octets}
use Rattle.rtps_submsg.specs.declared.sub.SubKind.{SubKind}
use Rattle.rtps_submsg.specs.declared.sub.SubKind.TheVariants.{Cut, BothDataAndKey, BadNumber, BadSet, BadRange, List as InList, BadOffset}
use Rattle.rtps_submsg.specs.Rows.{has}

-- id, flags, octetsToNextHeader (u16), and what follows; flag 01 is little-endian
pub record Heads (bytes : List ℕ) (id flags len : ℕ) (rest : List ℕ) : Type 0 where
  pub parts : bytes ≡ id ∷ flags ∷ (octets (has flags 0x01) w16 len ++ rest)
  pub fits : len < 2 ^ 16

-- a DATA says that its payload is data and that it is a key
abbrev pub has_both : ℕ → ℕ → Bool
has_both id flags = id == 0x15 && (has flags 0x04 && has flags 0x08)

-- octetsToNextHeader of 0 means an empty body for PAD and INFO_TS, and else all that is left
abbrev pub extent : ℕ → ℕ → ℕ → ℕ
extent id len left = if len == 0 then (if id == 0x01 || id == 0x09 then 0 else left) else len

-- what a header says, and the body
pub record Framed : Type 0 where
  pub id : ℕ
  pub flags : ℕ
  pub body : List ℕ

-- a good header and a whole body
pub record Frames (bytes : List ℕ) (f : Framed) : Type 0 where
  pub len : ℕ
  pub after : List ℕ
  pub heads : Heads bytes f.id f.flags len (f.body ++ after)
  pub one_payload : has_both f.id f.flags ≡ false
  pub whole : length f.body ≡ extent f.id len (length (f.body ++ after))

pub record HasBoth (bytes : List ℕ) : Type 0 where
  pub id : ℕ
  pub flags : ℕ
  pub len : ℕ
  pub rest : List ℕ
  pub heads : Heads bytes id flags len rest
  pub both : has_both id flags ≡ true

-- the body is longer than what is left
pub record IsBodyCut (bytes : List ℕ) : Type 0 where
  pub id : ℕ
  pub flags : ℕ
  pub len : ℕ
  pub rest : List ℕ
  pub heads : Heads bytes id flags len rest
  pub one_payload : has_both id flags ≡ false
  pub short : length rest < extent id len (length rest)

-- The breaks of a header, in the order in which they are tested.
abbrev pub HeadBreaks : List ℕ → ℕ → SubKind → Type 0
HeadBreaks bytes at Cut = ((length bytes < 4) × (at ≡ 0)) ⊎ (IsBodyCut bytes × (at ≡ 4))
HeadBreaks bytes at BothDataAndKey = HasBoth bytes × (at ≡ 1)
HeadBreaks bytes at BadNumber = ⊥
HeadBreaks bytes at BadSet = ⊥
HeadBreaks bytes at BadRange = ⊥
HeadBreaks bytes at (InList kind) = ⊥
HeadBreaks bytes at BadOffset = ⊥

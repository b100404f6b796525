-- A submessage at the front, or its first break.
use Rattle.std.specs.Prelude.{◌≡◌, ◌⊎◌, ℕ, ◌+◌, ◌-◌, Bool, true, false, List, length, ◌==◌}
use Rattle.rtps_submsg.specs.declared.field.Broken.{Broken}
use Rattle.rtps_submsg.specs.declared.sub.DataSub.{DataSub}
use Rattle.rtps_submsg.specs.declared.sub.Sub.{Sub}
use Rattle.rtps_submsg.specs.declared.sub.Sub.TheVariants.{Data}
use Rattle.rtps_submsg.specs.declared.sub.SubKind.{SubKind}
use Rattle.rtps_submsg.specs.Grammar.{Spells, Breaks}
use Rattle.rtps_submsg.specs.Headers.{Framed, Frames, HeadBreaks}
use Rattle.rtps_submsg.specs.Rows.{has, row_of}
use Rattle.rtps_submsg.specs.Data.{DataSpells, DataBreaks}

-- the body spells the submessage, for DATA and for the others
abbrev pub SpellsBy : Bool → Framed → Sub → Type 0
SpellsBy true f s = (d : DataSub) × DataSpells (has f.flags 0x01) f.flags f.body d × (s ≡ Data d)
SpellsBy false f s = Spells (row_of (has f.flags 0x01) f.flags f.id) f.body s

abbrev pub BreaksBy : Bool → Framed → Broken → Type 0
BreaksBy true f e = DataBreaks (has f.flags 0x01) f.flags f.body e
BreaksBy false f e = Breaks (row_of (has f.flags 0x01) f.flags f.id) f.body e

abbrev pub BodySpells : Framed → Sub → Type 0
BodySpells f s = SpellsBy (f.id == 0x15) f s

abbrev pub BodyBreaks : Framed → Broken → Type 0
BodyBreaks f e = BreaksBy (f.id == 0x15) f e

-- the first n octets spell the submessage
pub record SubSpells (bytes : List ℕ) (s : Sub) (n : ℕ) : Type 0 where
  pub frame : Framed
  pub framed : Frames bytes frame
  pub body : BodySpells frame s
  pub takes : n ≡ 4 + length frame.body

-- a break in the body: its place is that of the field
pub record BreaksInBody (bytes : List ℕ) (at : ℕ) (kind : SubKind) : Type 0 where
  pub frame : Framed
  pub framed : Frames bytes frame
  pub broken : Broken
  pub breaks : BodyBreaks frame broken
  pub place : at ≡ 4 + (length frame.body - broken.left)
  pub kind_is : kind ≡ broken.kind

-- the first break: of the header, or else in the body
abbrev pub SubBreaks : List ℕ → ℕ → SubKind → Type 0
SubBreaks bytes at kind = HeadBreaks bytes at kind ⊎ BreaksInBody bytes at kind

-- the same submessage, wherever its payload lies
pub record SameData (d e : DataSub) : Type 0 where
  pub reader : d.reader ≡ e.reader
  pub writer : d.writer ≡ e.writer
  pub number : d.number ≡ e.number
  pub inline : d.inline ≡ e.inline
  pub form : d.form ≡ e.form
  pub payload : d.payload.now ≡ e.payload.now

pub record SameDatas (s t : Sub) : Type 0 where
  pub one : DataSub
  pub other : DataSub
  pub one_is : s ≡ Data one
  pub other_is : t ≡ Data other
  pub same : SameData one other

abbrev pub SameSub : Sub → Sub → Type 0
SameSub s t = (s ≡ t) ⊎ SameDatas s t

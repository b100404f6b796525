-- That each text has one reading.
use Rattle.std.specs.Prelude.{◌≡◌, ◌⊎◌, ℕ, List}
use Rattle.rtps_submsg.specs.declared.sub.Sub.{Sub}
use Rattle.rtps_submsg.specs.declared.sub.SubKind.{SubKind}
use Rattle.rtps_submsg.specs.Subs.{SubSpells, SubBreaks, SameSub}

-- what a submessage at the front tells, and how many octets it takes
pub record SomeSub (bytes : List ℕ) : Type 0 where
  pub sub : Sub
  pub n : ℕ
  pub spells : SubSpells bytes sub n

-- the first break, and its place
pub record SomeBreak (bytes : List ℕ) : Type 0 where
  pub at : ℕ
  pub kind : SubKind
  pub breaks : SubBreaks bytes at kind

-- a submessage or a break, never both, and one alone
pub record HasOneReading (bytes : List ℕ) : Type 0 where
  pub either : SomeSub bytes ⊎ SomeBreak bytes
  pub apart : SomeSub bytes → SomeBreak bytes → ⊥
  pub one_sub : (x y : SomeSub bytes) → (x.n ≡ y.n) × SameSub x.sub y.sub
  pub one_break : (x y : SomeBreak bytes) → (x.at ≡ y.at) × (x.kind ≡ y.kind)

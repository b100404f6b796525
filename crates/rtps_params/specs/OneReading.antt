-- That each text has one reading.
use Rattle.std.specs.Prelude.{◌≡◌, ◌⊎◌, ℕ, ◌<◌, Bool, List, get_or}
use Rattle.rtps_params.specs.declared.inline.Inline.{Inline}
use Rattle.rtps_params.specs.declared.parameter.ListKind.{ListKind}
use Rattle.rtps_params.specs.Lists.{ListSpells, ListBreaks}

-- each is below 256
abbrev pub AreOctets : List ℕ → Type 0
AreOctets bytes = (i : ℕ) → get_or bytes i 0 < 256

-- what a list at the front tells, and how many octets it takes
pub record SomeList (bytes : List ℕ) (little : Bool) : Type 0 where
  pub inline : Inline
  pub n : ℕ
  pub spells : ListSpells bytes little inline n

-- the first break, and its place
pub record SomeBreak (bytes : List ℕ) (little : Bool) : Type 0 where
  pub at : ℕ
  pub kind : ListKind
  pub breaks : ListBreaks bytes little at kind

-- a list or a break, never both, and one alone
pub record HasOneReading (bytes : List ℕ) (little : Bool) : Type 0 where
  pub either : SomeList bytes little ⊎ SomeBreak bytes little
  pub apart : SomeList bytes little → SomeBreak bytes little → ⊥
  pub one_list : (x y : SomeList bytes little) → (x.inline ≡ y.inline) × (x.n ≡ y.n)
  pub one_break : (x y : SomeBreak bytes little) → (x.at ≡ y.at) × (x.kind ≡ y.kind)

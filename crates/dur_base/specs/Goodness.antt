-- What is asked of each sample that is kept or sent.
use Rattle.std.specs.Prelude.{◌≡◌, ℕ, ◌-◌, ◌*◌, ◌<◌, ◌≤◌, ◌^◌, List, [], ◌∷◌, length}
use Rattle.std.specs.declared.option.Option.{Option}
use Rattle.std.specs.Prelude.{Some, None}
use Rattle.dur_base.specs.declared.sample.Act.{Act}
use Rattle.dur_base.specs.declared.sample.Act.TheVariants.{Write, Dispose, Unregister, DisposeUnregister, Marker}
use Rattle.dur_base.specs.declared.sample.Form.{Form}
use Rattle.dur_base.specs.declared.sample.Form.TheVariants.{Nothing, Data, KeyOnly}
use Rattle.dur_base.specs.declared.sample.SetMark.{SetMark}
use Rattle.dur_base.specs.declared.sample.SetMark.TheVariants.{NoSet, End, Of}
use Rattle.dur_base.specs.declared.sample.Raw.{Raw}
use Rattle.dur_base.specs.declared.sample.Sample.{Sample}

-- it lives for ever, or for less than 2147483647 seconds
abbrev pub IsLifespan : Option ℕ → Type 0
IsLifespan None = Unit {0}
IsLifespan (Some ticks) = ticks < 2147483647 * 2 ^ 32

-- a set begins at a number that has one after it
abbrev pub IsMark : SetMark → Type 0
IsMark NoSet = Unit {0}
IsMark End = Unit {0}
IsMark (Of number) = number ≤ 2 ^ 63 - 2

-- so does an original's
abbrev pub IsOriginal : Option (List ℕ × ℕ) → Type 0
IsOriginal None = Unit {0}
IsOriginal (Some original) = original.1 ≤ 2 ^ 63 - 2

-- at most 65,344 octets, and none for a sample without a payload
abbrev pub IsPayload : Form → List ℕ → Type 0
IsPayload Nothing payload = payload ≡ []
IsPayload Data payload = length payload ≤ 65344
IsPayload KeyOnly payload = length payload ≤ 65344

abbrev pub zero_key : List ℕ
zero_key = 0 ∷ 0 ∷ 0 ∷ 0 ∷ 0 ∷ 0 ∷ 0 ∷ 0 ∷ 0 ∷ 0 ∷ 0 ∷ 0 ∷ 0 ∷ 0 ∷ 0 ∷ 0 ∷ []

-- a write has data; a marker has no payload and the key zero
abbrev pub IsAct : Act → Form → List ℕ → Type 0
IsAct Write form key = form ≡ Data
IsAct Marker form key = (form ≡ Nothing) × (key ≡ zero_key)
IsAct Dispose form key = Unit {0}
IsAct Unregister form key = Unit {0}
IsAct DisposeUnregister form key = Unit {0}

pub record IsGood (s : Sample) : Type 0 where
  pub lifespan : IsLifespan s.lifespan
  pub mark : IsMark s.set
  pub original : IsOriginal s.original
  pub payload : IsPayload s.form s.payload
  pub act : IsAct s.act s.form s.key

-- the same of a sample whose key is not read yet
pub record IsGoodRaw (r : Raw) : Type 0 where
  pub status : r.status ≤ 3
  pub lifespan : IsLifespan r.lifespan
  pub mark : IsMark r.set
  pub original : IsOriginal r.original
  pub payload : IsPayload r.form r.payload

-- What the parameters of a list tell together.
use Rattle.std.specs.Prelude.{ℕ, List, [], ◌∷◌, Option, Some, None}
use Rattle.std.specs.Option.{option_or, unwrap_or}
use Rattle.dur_base.specs.declared.sample.SetMark.{SetMark}
use Rattle.dur_base.specs.declared.sample.SetMark.TheVariants.{NoSet}
use Rattle.rtps_params.specs.declared.inline.Inline.{Inline}
use Rattle.rtps_params.specs.declared.parameter.Parameter.{Parameter}
use Rattle.rtps_params.specs.declared.parameter.Parameter.TheVariants.{Hash, Status, Lifespan, Set, Original, Strange, Passed}

-- ---- what one parameter tells of each field

abbrev pub hash_in : Parameter → Option (List ℕ)
hash_in (Hash key) = Some key
hash_in _ = None

abbrev pub status_in : Parameter → Option ℕ
status_in (Status status) = Some status
status_in _ = None

abbrev pub lifespan_in : Parameter → Option (Option ℕ)
lifespan_in (Lifespan ticks) = Some ticks
lifespan_in _ = None

abbrev pub set_in : Parameter → Option SetMark
set_in (Set mark) = Some mark
set_in _ = None

abbrev pub original_in : Parameter → Option (List ℕ × ℕ)
original_in (Original guid number) = Some (guid, number)
original_in _ = None

abbrev pub strange_in : Parameter → Option ℕ
strange_in (Strange id) = Some id
strange_in _ = None

-- ---- what all of them tell

-- a repeated parameter counts the last time
abbrev pub last_of : {A : Type 0} → (Parameter → Option A) → List Parameter → Option A
last_of f [] = None
last_of f (p ∷ ps) = option_or (last_of f ps) (f p)

-- of the strange ids the first counts
abbrev pub first_of : {A : Type 0} → (Parameter → Option A) → List Parameter → Option A
first_of f [] = None
first_of f (p ∷ ps) = option_or (f p) (first_of f ps)

-- what no parameter tells: no hash, status 0, for ever, no set, no original, nothing strange
unfoldable pub inline_of : List Parameter → Inline
inline_of ps = record {
  hash = last_of hash_in ps;
  status = unwrap_or (last_of status_in ps) 0;
  lifespan = unwrap_or (last_of lifespan_in ps) None;
  set = unwrap_or (last_of set_in ps) NoSet;
  original = last_of original_in ps;
  strange = first_of strange_in ps;
}

-- the same after one parameter more
abbrev pub with_parameter : Inline → Parameter → Inline
with_parameter i (Hash key) = record i { hash = Some key }
with_parameter i (Status status) = record i { status = status }
with_parameter i (Lifespan ticks) = record i { lifespan = ticks }
with_parameter i (Set mark) = record i { set = mark }
with_parameter i (Original guid number) = record i { original = Some (guid, number) }
with_parameter i (Strange id) = record i { strange = option_or i.strange (Some id) }
with_parameter i Passed = i

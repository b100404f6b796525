-- The parameter list of a payload as a text (DDSI-RTPS 9.4.2.11), and the payload around it (9.4.2.12).
use Rattle.std.specs.Prelude.{◌≡◌, ◌≢◌, ℕ, ◌%◌, ◌<◌, ◌^◌, Bool, true, false, List, [], ◌∷◌, ◌++◌, length, map, Option, Some, None, if◌then◌else◌}
use Rattle.std.specs.Str.{bytes_eq}
use Rattle.std.specs.List.{AllByRecursion}
use Rattle.std.specs.Int.{w16}
use Rattle.dur_base.specs.Fields.{octets}
use Rattle.dur_qos.specs.declared.plan.Topic.{Topic}
use Rattle.rtps_discovery.specs.declared.list.Listed.{Listed}
use Rattle.rtps_discovery.specs.declared.parameter.Parameter.{Parameter}
use Rattle.rtps_discovery.specs.Table.{parameter_at}
use Rattle.rtps_discovery.specs.Meaning.{listed_of}

-- a parameter as it stands in a list, and what it tells
pub record Given : Type 0 where
  pub id : ℕ
  pub value : List ℕ
  pub means : Parameter

-- id u16, length u16, value
abbrev pub text : Bool → Given → List ℕ
text little p = octets little w16 p.id ++ (octets little w16 (length p.value) ++ p.value)

-- one after the other
abbrev pub texts : Bool → List Given → List ℕ
texts little [] = []
texts little (p ∷ ps) = text little p ++ texts little ps

-- it is no sentinel, its length is a multiple of 4, and its value tells what the table says
pub record IsGood (topics : List Topic) (little : Bool) (p : Given) : Type 0 where
  pub id : p.id < 2 ^ 16
  pub no_sentinel : p.id ≢ 1
  pub fits : length p.value < 2 ^ 16
  pub whole : length p.value % 4 ≡ 0
  pub tells : parameter_at topics little p.id p.value ≡ Some p.means

abbrev pub AreGood : List Topic → Bool → List Given → Type 0
AreGood topics little ps = AllByRecursion (IsGood topics little) ps

-- the sentinel, whose length is ignored, and what follows it
pub record Ends (little : Bool) (rest : List ℕ) : Type 0 where
  pub ignored : List ℕ
  pub after : List ℕ
  pub parts : rest ≡ octets little w16 1 ++ (ignored ++ after)
  pub two : length ignored ≡ 2

-- The octets begin with a list that tells this: good parameters, and then the sentinel. A list that breaks before its
-- sentinel tells nothing.
pub record ListTells (topics : List Topic) (little : Bool) (bytes : List ℕ) (l : Listed) : Type 0 where
  pub params : List Given
  pub rest : List ℕ
  pub parts : bytes ≡ texts little params ++ rest
  pub good : AreGood topics little params
  pub ends : Ends little rest
  pub tells : l ≡ listed_of (map (λ p. p.means) params)

-- PL_CDR_BE and PL_CDR_LE
abbrev pub representation : Bool → List ℕ
representation true = 0 ∷ 3 ∷ []
representation false = 0 ∷ 2 ∷ []

-- whether the byte order of that representation is little-endian
abbrev pub order_of : List ℕ → Option Bool
order_of octets =
    if bytes_eq octets (representation false) then Some false
    else if bytes_eq octets (representation true) then Some true
    else None

-- A payload is a representation, two octets of options, and a list in the byte order of the representation.
pub record PayloadTells (topics : List Topic) (payload : List ℕ) (l : Listed) : Type 0 where
  pub little : Bool
  pub options : List ℕ
  pub list : List ℕ
  pub parts : payload ≡ representation little ++ (options ++ list)
  pub two : length options ≡ 2
  pub tells : ListTells topics little list l

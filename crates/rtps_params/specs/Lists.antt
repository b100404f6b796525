-- Parameter lists as texts, and where a list breaks.
use Rattle.std.specs.Prelude.{◌≡◌, ◌≢◌, ◌⊎◌, ℕ, ◌+◌, ◌%◌, ◌<◌, ◌^◌, Bool, List, [], ◌∷◌, ◌++◌, length, map, Some, None}
use Rattle.std.specs.List.{AllByRecursion}
use Rattle.std.specs.Int.{w16}
use Rattle.rtps_params.specs.declared.inline.Inline.{Inline}
use Rattle.rtps_params.specs.declared.parameter.ListKind.{ListKind}
use Rattle.rtps_params.specs.declared.parameter.ListKind.TheVariants.{Cut, OddLength, BadValue}
use Rattle.rtps_params.specs.declared.parameter.Parameter.{Parameter}
use Rattle.dur_base.specs.Fields.{octets}
use Rattle.rtps_params.specs.Table.{parameter_at}
use Rattle.rtps_params.specs.Meaning.{inline_of}

-- a parameter as it stands in a list, and what it tells
pub record Given : Type 0 where
  pub id : ℕ
  pub value : List ℕ
  pub means : Parameter

-- id u16, length u16, value
abbrev pub text : Bool → Given → List ℕ
text little p = octets little w16 p.id ++ (octets little w16 (length p.value) ++ p.value)

-- one after the other
abbrev pub texts : Bool → List Given → List ℕ
texts little [] = []
texts little (p ∷ ps) = text little p ++ texts little ps

-- it is no sentinel, its length is a multiple of 4, and its value tells what the table says
pub record IsGood (little : Bool) (p : Given) : Type 0 where
  pub id : p.id < 2 ^ 16
  pub no_sentinel : p.id ≢ 1
  pub fits : length p.value < 2 ^ 16
  pub whole : length p.value % 4 ≡ 0
  pub tells : parameter_at little p.id p.value ≡ Some p.means

abbrev pub AreGood : Bool → List Given → Type 0
AreGood little ps = AllByRecursion (IsGood little) ps

-- the sentinel, whose length is ignored, and what follows it
pub record Ends (little : Bool) (rest : List ℕ) : Type 0 where
  pub ignored : List ℕ
  pub after : List ℕ
  pub parts : rest ≡ octets little w16 1 ++ (ignored ++ after)
  pub two : length ignored ≡ 2

-- The first n octets are a list that tells this: good parameters, and then the sentinel, of 4 octets.
pub record ListSpells (bytes : List ℕ) (little : Bool) (inline : Inline) (n : ℕ) : Type 0 where
  pub params : List Given
  pub rest : List ℕ
  pub parts : bytes ≡ texts little params ++ rest
  pub good : AreGood little params
  pub ends : Ends little rest
  pub tells : inline ≡ inline_of (map (λ p. p.means) params)
  pub takes : n ≡ length (texts little params) + 4

-- the id and the length of a parameter, and what follows them
pub record Begins (little : Bool) (rest : List ℕ) (id len : ℕ) (after : List ℕ) : Type 0 where
  pub parts : rest ≡ octets little w16 id ++ (octets little w16 len ++ after)
  pub id_fits : id < 2 ^ 16
  pub len_fits : len < 2 ^ 16
  pub no_sentinel : id ≢ 1

-- its length is a multiple of 4, and the value does not fit
pub record IsValueCut (little : Bool) (rest : List ℕ) : Type 0 where
  pub id : ℕ
  pub len : ℕ
  pub after : List ℕ
  pub begins : Begins little rest id len after
  pub whole : len % 4 ≡ 0
  pub short : length after < len

-- its length is no multiple of 4, whether or not the value fits
pub record HasOddLength (little : Bool) (rest : List ℕ) : Type 0 where
  pub id : ℕ
  pub len : ℕ
  pub after : List ℕ
  pub begins : Begins little rest id len after
  pub odd : len % 4 ≢ 0

-- the value is there, and the table has nothing for it
pub record HasBadValue (little : Bool) (rest : List ℕ) (id : ℕ) : Type 0 where
  pub value : List ℕ
  pub after : List ℕ
  pub begins : Begins little rest id (length value) (value ++ after)
  pub whole : length value % 4 ≡ 0
  pub bad : parameter_at little id value ≡ None

-- the parameter that begins here breaks the list
abbrev pub Breaks : Bool → List ℕ → ListKind → Type 0
Breaks little rest Cut = (length rest < 4) ⊎ IsValueCut little rest
Breaks little rest OddLength = HasOddLength little rest
Breaks little rest (BadValue id) = HasBadValue little rest id

-- Good parameters, and then one that breaks the list, at this place and in this way.
pub record ListBreaks (bytes : List ℕ) (little : Bool) (at : ℕ) (kind : ListKind) : Type 0 where
  pub params : List Given
  pub rest : List ℕ
  pub parts : bytes ≡ texts little params ++ rest
  pub good : AreGood little params
  pub breaks : Breaks little rest kind
  pub place : at ≡ length (texts little params)

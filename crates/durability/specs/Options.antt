-- The options of a command line.
use Rattle.std.specs.Prelude.{◌≡◌, ◌≢◌, ◌⊎◌, ◌<◌, ◌==◌, ℕ, true, false, List, [], ◌∷◌, ◌++◌, length, Some, None, if◌then◌else◌}
use Rattle.std.specs.declared.option.Option.{Option}
use Rattle.std.specs.List.{AllByRecursion, list_any}
use Rattle.std.specs.Str.{bytes_eq}
use Rattle.std.specs.Fmt.{decimal}
use Rattle.hex.specs.Hex.{IsBytes, encode_lower}

-- an option's name, and the value that is given to it
pub record Given : Type 0 where
  pub name : List ℕ
  pub value : List ℕ

-- two dashes and a text
abbrev pub dashed : List ℕ → List ℕ
dashed text = 45 ∷ 45 ∷ text

-- the words begin with this option, as `--name value` or as `--name=value`, and go on with the rest
abbrev pub Begins : List (List ℕ) → Given → List (List ℕ) → Type 0
Begins words o rest = (words ≡ dashed o.name ∷ o.value ∷ rest) ⊎ (words ≡ dashed (o.name ++ 61 ∷ o.value) ∷ rest)

-- the words are these options, one behind the other
abbrev pub Spells : List (List ℕ) → List Given → Type 0
Spells words [] = words ≡ []
Spells words (o ∷ more) = (rest : List (List ℕ)) × Begins words o rest × Spells rest more

-- no option of these has that name
abbrev pub IsNew : List ℕ → List Given → Type 0
IsNew name given = AllByRecursion (λ o. o.name ≢ name) given

-- no two of the options have one name: each is new after those seen
abbrev pub AreNew : List Given → List Given → Type 0
AreNew seen [] = Unit {0}
AreNew seen (o ∷ more) = IsNew o.name seen × AreNew (seen ++ o ∷ []) more

-- the name is one of these
abbrev pub IsAmong : List (List ℕ) → List ℕ → Type 0
IsAmong names name = list_any (λ n. bytes_eq n name) names ≡ true

-- the text does not begin with a dash
abbrev pub IsPlain : List ℕ → Type 0
IsPlain [] = Unit {0}
IsPlain (b ∷ bs) = (b == 45) ≡ false

-- the words are these options, in any order, of these names, each at most once
pub record IsOptions (names words : List (List ℕ)) (given : List Given) : Type 0 where
  pub spells : Spells words given
  pub known : AllByRecursion (λ o. IsAmong names o.name) given
  pub once : AreNew [] given
  -- no value begins with a dash
  pub plain : AllByRecursion (λ o. IsPlain o.value) given

-- the value of the option with that name, where it is given
abbrev pub value_of : List ℕ → List Given → Option (List ℕ)
value_of name [] = None
value_of name (o ∷ more) = if bytes_eq o.name name then Some o.value else value_of name more

-- the number of an option: decimal, without leading zeros; and 0 where it is left out
abbrev pub IsNumber : Option (List ℕ) → ℕ → Type 0
IsNumber None n = n ≡ 0
IsNumber (Some text) n = text ≡ decimal n

-- the octets of an option that must be given: so many, each as two hex digits in lower case
abbrev pub IsHex : ℕ → Option (List ℕ) → List ℕ → Type 0
IsHex size None octets = ⊥
IsHex size (Some text) octets = (length octets ≡ size) × IsBytes octets × (text ≡ encode_lower octets)

-- the text of an option that must be given: it is not empty, and begins with no dash
abbrev pub IsText : Option (List ℕ) → List ℕ → Type 0
IsText None text = ⊥
IsText (Some value) text = (value ≡ text) × (text ≢ []) × IsPlain text

-- the number of an option that must be given: it is some, since 0 stands for one that is left out
abbrev pub IsCount : Option (List ℕ) → ℕ → Type 0
IsCount value n = IsNumber value n × (0 < n)

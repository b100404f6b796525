-- A body as a row of fields, and where it breaks.
use Rattle.std.specs.Prelude.{◌≡◌, ◌⊎◌, ℕ, ◌+◌, ◌<◌, Bool, List, ◌++◌, length, Option, Some, None, if◌then◌else◌}
use Rattle.rtps_submsg.specs.declared.field.Broken.{Broken}
use Rattle.rtps_submsg.specs.declared.sub.SubKind.{SubKind}
use Rattle.rtps_submsg.specs.declared.sub.SubKind.TheVariants.{Cut}

-- What is wrong with a field, and how many octets before it the fault is placed.
pub record Bad : Type 0 where
  pub back : ℕ
  pub kind : SubKind

-- what a field's octets must meet, which may depend on the octets after it
abbrev pub Rule : Type 0
Rule = List ℕ → List ℕ → Option Bad

-- The fields of a body in order, each of a width and under a rule, and then what they tell. The fields
-- that follow one may depend on its octets.
pub data Row (V : Type 0) : Type 0 where
  ends : V → Row V
  field : ℕ → Rule → (List ℕ → Row V) → Row V

-- whatever the octets are
abbrev pub any : Rule
any text rest = None

-- only where a test holds
abbrev pub only_if : Bool → SubKind → Option Bad
only_if good kind = if good then None else Some (record { back = 0; kind = kind })

-- The body is good fields one after the other, which tell this. What follows them is not looked at.
abbrev pub Spells : {V : Type 0} → Row V → List ℕ → V → Type 0
Spells (ends v) body told = told ≡ v
Spells (field width rule next) body told =
    (text : List ℕ) × (rest : List ℕ) × (body ≡ text ++ rest) × (length text ≡ width) × (rule text rest ≡ None) × Spells (next text) rest told

-- The field that begins here does not fit. Its place is told by the octets from it to the body's end.
pub record IsCut (width : ℕ) (body : List ℕ) (broken : Broken) : Type 0 where
  pub short : length body < width
  pub left : broken.left ≡ length body
  pub kind : broken.kind ≡ Cut

-- the field that begins here is bad
pub record IsBad (width : ℕ) (rule : Rule) (body : List ℕ) (broken : Broken) : Type 0 where
  pub text : List ℕ
  pub rest : List ℕ
  pub parts : body ≡ text ++ rest
  pub fits : length text ≡ width
  pub bad : Bad
  pub rule_says : rule text rest ≡ Some bad
  pub left : broken.left ≡ bad.back + length body
  pub kind : broken.kind ≡ bad.kind

-- The first break: good fields, and then one that does not fit or is bad.
abbrev pub Breaks : {V : Type 0} → Row V → List ℕ → Broken → Type 0
Breaks (ends v) body broken = ⊥
Breaks (field width rule next) body broken =
    IsCut width body broken
    ⊎ IsBad width rule body broken
    ⊎ ((text : List ℕ) × (rest : List ℕ) × (body ≡ text ++ rest) × (length text ≡ width) × (rule text rest ≡ None) × Breaks (next text) rest broken)

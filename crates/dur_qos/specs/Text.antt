-- The text of a plan by its lines, and where it breaks.
use Rattle.std.specs.Prelude.{◌≡◌, ℕ, ◌+◌, ◌==◌, ◌≤◌, ◌⊎◌, true, false, List, [], ◌∷◌, ◌++◌, length, Some, None, Ok, Err}
use Rattle.std.specs.List.{flat_map, AllByRecursion}
use Rattle.std.specs.declared.option.Option.{Option}
use Rattle.dur_qos.specs.declared.fault.PlanKind.{PlanKind}
use Rattle.dur_qos.specs.declared.fault.PlanKind.TheVariants.{Word}
use Rattle.dur_qos.specs.declared.fault.PlanFault.{PlanFault}
use Rattle.dur_qos.specs.declared.plan.Plan.{Plan}
use Rattle.dur_qos.specs.Reading.{whole_line}

-- a line, and its line feed
abbrev pub line_text : List ℕ → List ℕ
line_text l = l ++ 10 ∷ []

abbrev pub HasNoFeed : List ℕ → Type 0
HasNoFeed l = AllByRecursion (λ b. (b == 10) ≡ false) l

-- the lines are read one after the other, and none is the last
abbrev pub GoesOn : Option Plan → List (List ℕ) → Option Plan → Type 0
GoesOn p [] q = p ≡ q
GoesOn p (l ∷ ls) q = HasNoFeed l × (length l ≤ 512) × (next : Plan) × (whole_line p l ≡ Ok (record { plan = next; ended = false })) × GoesOn (Some next) ls q

-- the lines of a text that are read before something else comes
pub record Lines (bytes : List ℕ) (count : ℕ) (before : Option Plan) (rest : List ℕ) : Type 0 where
  pub lines : List (List ℕ)
  pub parts : bytes ≡ flat_map line_text lines ++ rest
  pub goes : GoesOn None lines before
  pub count_is : count ≡ length lines

-- the text of a plan stands at the front, in n octets
pub record PlanText (bytes : List ℕ) (plan : Plan) (n : ℕ) : Type 0 where
  pub count : ℕ
  pub before : Option Plan
  pub last : List ℕ
  pub more : List ℕ
  pub lines : Lines bytes count before (line_text last ++ more)
  pub feed : HasNoFeed last
  pub short : length last ≤ 512
  pub says : whole_line before last ≡ Ok (record { plan = plan; ended = true })
  pub size : n + length more ≡ length bytes

-- a whole line that is at fault
abbrev pub BadLine : Option Plan → List ℕ → PlanKind → Type 0
BadLine before bad kind = (l : List ℕ) × (bad ≡ line_text l) × HasNoFeed l × (length l ≤ 512) × (whole_line before l ≡ Err kind)

-- 512 octets of a line, and one more that is no line feed
abbrev pub LongLine : List ℕ → PlanKind → Type 0
LongLine bad kind = (l : List ℕ) × (b : ℕ) × (bad ≡ l ++ b ∷ []) × HasNoFeed l × (length l ≡ 512) × ((b == 10) ≡ false) × (kind ≡ Word)

-- after lines that are read a line is at fault, whatever follows
pub record BreaksAt (bytes : List ℕ) (fault : PlanFault) : Type 0 where
  pub count : ℕ
  pub before : Option Plan
  pub bad : List ℕ
  pub more : List ℕ
  pub lines : Lines bytes count before (bad ++ more)
  pub place : fault.line ≡ count + 1
  pub breaks : BadLine before bad fault.kind ⊎ LongLine bad fault.kind

-- the lines of a text are read, none is the last, and the input ends in the line after them, or at its beginning
pub record Unfinished (bytes : List ℕ) (line : ℕ) : Type 0 where
  pub count : ℕ
  pub before : Option Plan
  pub part : List ℕ
  pub lines : Lines bytes count before part
  pub feed : HasNoFeed part
  pub short : length part ≤ 512
  pub place : line ≡ count + 1

-- what is wrong with a text: its first break, or a bad word in the line in which it ends
abbrev pub IsFault : List ℕ → PlanFault → Type 0
IsFault bytes fault = BreaksAt bytes fault ⊎ (Unfinished bytes fault.line × (fault.kind ≡ Word))

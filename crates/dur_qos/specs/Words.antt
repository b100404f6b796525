-- The words of a line, and what each may say.
use Rattle.std.specs.Prelude.{◌≡◌, ℕ, ◌==◌, List, [], ◌∷◌, Some, None, Ok, Err}
use Rattle.std.specs.List.{slice_split}
use Rattle.std.specs.declared.option.Option.{Option}
use Rattle.std.specs.declared.result.Result.{Result}
use Rattle.dur_qos.specs.declared.kinds.PlanKind.{PlanKind}
use Rattle.dur_qos.specs.declared.kinds.PlanKind.TheVariants.{Word}

-- the words of a line are parted by one space
abbrev pub words : List ℕ → List (List ℕ)
words line = slice_split (λ b. b == 32) line

abbrev pub words_left : Option (List ℕ) → List (List ℕ)
words_left None = []
words_left (Some line) = words line

infixl 10 ◌>>=◌
abbrev pub ◌>>=◌ : {A B : Type 0} → Result A PlanKind → (A → Result B PlanKind) → Result B PlanKind
(Ok x) >>= f = f x
(Err e) >>= f = Err e

-- what a word says, and the words after it
abbrev pub Reads : Type 0 → Type 0
Reads A = Result (A × List (List ℕ)) PlanKind

-- a missing word is a bad word
abbrev pub word : List (List ℕ) → Reads (List ℕ)
word [] = Err Word
word (w ∷ ws) = Ok (w, ws)

-- what a value says of a word, or this fault
abbrev pub good : {A : Type 0} → Option A → List (List ℕ) → PlanKind → Reads A
good None ws kind = Err kind
good (Some x) ws kind = Ok (x, ws)

-- a surplus word is a bad word
abbrev pub last : {A : Type 0} → A → List (List ℕ) → Result A PlanKind
last x [] = Ok x
last x (w ∷ ws) = Err Word

-- what a function returned, seen by view, is what reading gives
abbrev pub Gives : {X Y : Type 0} → (X → Y) → Result X PlanKind → Result Y PlanKind → Type 0
Gives view (Ok x) read = read ≡ Ok (view x)
Gives view (Err e) read = read ≡ Err e

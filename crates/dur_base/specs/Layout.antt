-- A text of fields, one after the other.
use Rattle.std.specs.Prelude.{ℕ, List, [], ◌∷◌, ◌++◌, take, drop}

-- the fields, one after the other
abbrev pub glued : List (List ℕ) → List ℕ
glued [] = []
glued (f ∷ fs) = f ++ glued fs

-- the parts of these lengths, and then the rest
abbrev pub cutting : List ℕ → List ℕ → List (List ℕ)
cutting [] bytes = bytes ∷ []
cutting (w ∷ ws) bytes = take w bytes ∷ cutting ws (drop w bytes)

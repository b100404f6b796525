-- Where a writer stands, by its GUID.
use Rattle.std.specs.Prelude.{◌≡◌, ◌≢◌, ℕ, zero, suc, Option, Some, None, List, [], ◌∷◌, map}
use Rattle.std.specs.List.{AllByRecursion}
use Rattle.std.specs.Str.{bytes_eq}
use Rattle.std.specs.HashMap as hash
use Rattle.std.specs.HashMap.{HashMap}
use Rattle.dur_view.specs.Identities.{Guid}
use Rattle.dur_view.specs.declared.data.KeptWriter.{KeptWriter}

abbrev pub guids : List KeptWriter → List Guid
guids lines = map (λ l. l.guid) lines

-- this GUID stands at this place
abbrev pub IsPlaceOf : List Guid → ℕ → Guid → Type 0
IsPlaceOf [] i g = ⊥
IsPlaceOf (x ∷ xs) zero g = x ≡ g
IsPlaceOf (x ∷ xs) (suc i) g = IsPlaceOf xs i g

-- it stands nowhere
abbrev pub HasNone : List Guid → Guid → Type 0
HasNone xs g = AllByRecursion (λ x. x ≢ g) xs

-- a place of it, or none where it stands nowhere
abbrev pub IsPlace : List Guid → Guid → Option ℕ → Type 0
IsPlace xs g (Some i) = IsPlaceOf xs i g
IsPlace xs g None = HasNone xs g

-- what a map has at a GUID
abbrev pub found : {S : Type 0} → HashMap (List ℕ) ℕ S → Guid → Option ℕ
found m g = hash.get_by (bytes_eq g) m

-- The index of GUIDs: it has a place of each, and no other GUID.
abbrev pub IsIndex : (Guid → Option ℕ) → List Guid → Type 0
IsIndex index xs = (g : Guid) → IsPlace xs g (index g)

-- A desk, of which the lone pass alone takes and marks, as a value that stands for a list of calls.
use Rattle.std.specs.Prelude.{◌≡◌, ℕ, ◌+◌, ◌%◌, ◌^◌, Bool, true, false, List, [], ◌∷◌}
use Rattle.turn_uses.specs.declared.desk.Event.{Event}
use Rattle.turn_uses.specs.declared.desk.Event.TheVariants.{Put, Took, Marked}

-- how many were put after these calls
abbrev pub put_after : ℕ → List Event → ℕ
put_after n [] = n
put_after n (Put ∷ es) = put_after ((n + 1) % 2 ^ 64) es
put_after n (Took to ∷ es) = put_after n es
put_after n (Marked at ∷ es) = put_after n es

-- up to which one was taken after these calls
abbrev pub taken_after : ℕ → List Event → ℕ
taken_after n [] = n
taken_after n (Put ∷ es) = taken_after n es
taken_after n (Took to ∷ es) = taken_after to es
taken_after n (Marked at ∷ es) = taken_after n es

-- a take answers all that was put, a mark names what was taken
abbrev pub IsLegal : ℕ → ℕ → List Event → Type 0
IsLegal put taken [] = Unit {0}
IsLegal put taken (Put ∷ es) = IsLegal ((put + 1) % 2 ^ 64) taken es
IsLegal put taken (Took to ∷ es) = (to ≡ put) × IsLegal put to es
IsLegal put taken (Marked at ∷ es) = (at ≡ taken) × IsLegal put taken es

-- to take and to mark is for the lone pass
abbrev pub is_lone : Event → Bool
is_lone Put = false
is_lone (Took to) = true
is_lone (Marked at) = true

-- Reading one parameter from left to right.
use Rattle.std.specs.Prelude.{◌≡◌, ℕ, ◌%◌, Bool, List, length, take, drop, Option, Some, None, Result, Ok, Err, nat_lt, ◌==◌, if◌then◌else◌}
use Rattle.std.specs.Int.{w16}
use Rattle.rtps_params.specs.declared.parameter.ListKind.{ListKind}
use Rattle.rtps_params.specs.declared.parameter.ListKind.TheVariants.{Cut, OddLength, BadValue}
use Rattle.rtps_params.specs.declared.parameter.Parameter.{Parameter}
use Rattle.dur_base.specs.Fields.{number}
use Rattle.rtps_params.specs.Table.{parameter_at}

infixl 10 ◌>>=◌
abbrev pub ◌>>=◌ : {A B : Type 0} → Result A ListKind → (A → Result B ListKind) → Result B ListKind
(Ok x) >>= f = f x
(Err e) >>= f = Err e

-- what a function returned, seen by view, is what reading gives
abbrev pub Gives : {X Y : Type 0} → (X → Y) → Result X ListKind → Result Y ListKind → Type 0
Gives view (Ok x) read = read ≡ Ok (view x)
Gives view (Err e) read = read ≡ Err e

-- the field of two octets at the front, and what follows it
unfoldable pub field_at : Bool → List ℕ → Result (ℕ × List ℕ) ListKind
field_at little bytes = if nat_lt (length bytes) 2 then Err Cut else Ok (number little w16 (take 2 bytes), drop 2 bytes)

-- the parameter, or a fault where its value tells nothing
abbrev pub found : ℕ → List ℕ → Option Parameter → Result (Option (Parameter × List ℕ)) ListKind
found id rest (Some p) = Ok (Some (p, rest))
found id rest None = Err (BadValue id)

-- the value and what follows it
abbrev pub body_at : Bool → ℕ → ℕ → List ℕ → Result (Option (Parameter × List ℕ)) ListKind
body_at little id len rest =
    if id == 1 then Ok None
    else if len % 4 == 0 then (if nat_lt (length rest) len then Err Cut else found id (drop len rest) (parameter_at little id (take len rest)))
    else Err OddLength

-- the parameter at the front and what follows it, or None at the sentinel
unfoldable pub next_at : Bool → List ℕ → Result (Option (Parameter × List ℕ)) ListKind
next_at little bytes = do
  id ← field_at little bytes
  len ← field_at little id.1
  body_at little id.0 len.0 len.1

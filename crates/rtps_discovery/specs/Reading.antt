-- Reading one parameter from left to right.
use Rattle.std.specs.Prelude.{◌≡◌, ℕ, ◌%◌, Bool, List, length, take, drop, Option, Some, None, option_map, nat_lt, ◌==◌, if◌then◌else◌}
use Rattle.std.specs.Int.{w16}
use Rattle.std.specs.Borrow.{Bor}
use Rattle.dur_base.specs.Fields.{number}
use Rattle.dur_qos.specs.declared.plan.Topic.{Topic}
use Rattle.rtps_discovery.specs.declared.parameter.Parameter.{Parameter}
use Rattle.rtps_discovery.specs.Table.{parameter_at}

-- a parameter and what follows it, or None at the sentinel
abbrev pub Step : Type 0
Step = Option (Parameter × List ℕ)

-- the parameter, where its value tells something
abbrev pub found : List ℕ → Option Parameter → Option Step
found rest (Some p) = Some (Some (p, rest))
found rest None = None

-- the value and what follows it
abbrev pub body_at : List Topic → Bool → ℕ → ℕ → List ℕ → Option Step
body_at topics little id len rest =
    if id == 1 then Some None
    else if len % 4 == 0 then (if nat_lt (length rest) len then None else found (drop len rest) (parameter_at topics little id (take len rest)))
    else None

-- what stands at the front, or None where that is neither
unfoldable pub next_at : List Topic → Bool → List ℕ → Option Step
next_at topics little bytes =
    if nat_lt (length bytes) 4 then None
    else body_at topics little (number little w16 (take 2 bytes)) (number little w16 (take 2 (drop 2 bytes))) (drop 2 (drop 2 bytes))

-- what a function returned is what reading gives
abbrev pub Gives : Option (Option (Parameter × Bor (List ℕ))) → Option Step → Type 0
Gives result read = read ≡ option_map (λ (o : Option (Parameter × Bor (List ℕ))). option_map (λ (x : Parameter × Bor (List ℕ)). (x.0, x.1.now)) o) result

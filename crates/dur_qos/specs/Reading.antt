-- A plan's text, octet by octet.
use Rattle.std.specs.Prelude.{◌≡◌, ℕ, ◌+◌, ◌<◌, ◌==◌, ◌||◌, Bool, true, false, List, [], ◌∷◌, ◌++◌, length, Some, None, Ok, Err, if◌then◌else◌, nat_le}
use Rattle.std.specs.Option.{is_some}
use Rattle.std.specs.declared.option.Option.{Option}
use Rattle.std.specs.declared.result.Result.{Result}
use Rattle.dur_qos.specs.declared.line.Line.{Line}
use Rattle.dur_qos.specs.declared.line.Line.TheVariants as line
use Rattle.dur_qos.specs.declared.fault.PlanKind.{PlanKind}
use Rattle.dur_qos.specs.declared.fault.PlanKind.TheVariants.{Word, OutOfMemory}
use Rattle.dur_qos.specs.declared.fault.PlanFault.{PlanFault}
use Rattle.dur_qos.specs.declared.plan.Plan.{Plan}
use Rattle.dur_qos.specs.Lines.{line_at}
use Rattle.dur_qos.specs.Plan.{add}

-- The plan so far, which is none before the first line; the octets of the line that has begun, and its number; whether
-- the line `end` has come; and the fault that was told.
pub record Reading : Type 0 where
  pub plan : Option Plan
  pub part : List ℕ
  pub line : ℕ
  pub ended : Bool
  pub fault : Option PlanFault

-- the plan after a line, and whether that was the last
pub record Next : Type 0 where
  pub plan : Plan
  pub ended : Bool

-- the first line is a prefix line, and everything else is a bad word
abbrev pub first : Result Line PlanKind → Result Next PlanKind
first (Ok (line.Prefix p)) = Ok (record { plan = record { prefix = p; topics = []; writers = []; readers = [] }; ended = false })
first (Ok (line.Topic t)) = Err Word
first (Ok (line.Writer guid topic lease)) = Err Word
first (Ok (line.Reader guid topic kind)) = Err Word
first (Ok line.End) = Err Word
first (Err k) = Err Word

abbrev pub added : Result Plan PlanKind → Result Next PlanKind
added (Ok plan) = Ok (record { plan = plan; ended = false })
added (Err k) = Err k

-- a later line is added, up to the line `end`
abbrev pub later : Plan → Result Line PlanKind → Result Next PlanKind
later plan (Ok line.End) = Ok (record { plan = plan; ended = true })
later plan (Ok (line.Prefix p)) = added (add plan (line.Prefix p))
later plan (Ok (line.Topic t)) = added (add plan (line.Topic t))
later plan (Ok (line.Writer guid topic lease)) = added (add plan (line.Writer guid topic lease))
later plan (Ok (line.Reader guid topic kind)) = added (add plan (line.Reader guid topic kind))
later plan (Err k) = Err k

abbrev pub whole_line : Option Plan → List ℕ → Result Next PlanKind
whole_line None text = first (line_at text)
whole_line (Some plan) text = later plan (line_at text)

abbrev pub stops : Reading → PlanKind → Reading
stops r kind = record r { fault = Some (record { line = r.line; kind = kind }) }

abbrev pub ends_line : Reading → Result Next PlanKind → Reading
ends_line r (Ok n) = record r { plan = Some n.plan; part = []; line = r.line + 1; ended = n.ended }
ends_line r (Err kind) = stops r kind

-- an octet comes: a line feed ends the line, and a line has at most 512 octets before it
unfoldable pub octet : Reading → ℕ → Reading
octet r b =
    if b == 10 then ends_line r (whole_line r.plan r.part)
    else if nat_le 512 (length r.part) then stops r Word
    else record r { part = r.part ++ b ∷ [] }

abbrev pub is_done : Reading → Bool
is_done r = r.ended || is_some r.fault

-- the reading after these octets, and how many of them it takes: none once it is done
abbrev pub after : Reading → List ℕ → Reading
after r [] = r
after r (b ∷ bs) = if is_done r then r else after (octet r b) bs

abbrev pub taken : Reading → List ℕ → ℕ
taken r [] = 0
taken r (b ∷ bs) = if is_done r then 0 else 1 + taken (octet r b) bs

-- memory runs out at one of these octets: those before it are read, and the fault is told at the line that has begun
abbrev pub RunsOut : Reading → List ℕ → Reading → Type 0
RunsOut old piece new = (front : List ℕ) × (more : List ℕ) × (piece ≡ front ++ more) × (0 < length more) × (new ≡ stops (after old front) OutOfMemory)

abbrev pub start : Reading
start = record { plan = None; part = []; line = 1; ended = false; fault = None }

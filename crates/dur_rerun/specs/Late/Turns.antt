-- The turns of a late reader over a link.
use Rattle.std.specs.Prelude.{◌≡◌, ℕ, Bool, true, false, List, [], ◌∷◌, map}
use Rattle.std.specs.declared.option.Option.{Option}
use Rattle.std.specs.Prelude.{Some, None}
use Rattle.std.specs.List.{flat_map}
use Rattle.rel_writer.specs.LateReaders.{Late, IsNack, asked}
use Rattle.rel_writer.specs.Sets.{any_marker}
use Rattle.rel_writer.specs.Turns.{Receives}

-- what came in a turn, where None says that nothing was waiting, and the ACKNACKs that were sent in it
pub record Turn : Type 0 where
  pub answer : Option (List ℕ)
  pub nacks : List (List ℕ)

-- the datagrams that were waiting
abbrev pub waiting : Option (List ℕ) → List (List ℕ)
waiting None = []
waiting (Some bytes) = bytes ∷ []

-- it sends its one next ACKNACK where it asks, and else nothing
abbrev pub SendsIf : Bool → Late → List (List ℕ) → Late → Type 0
SendsIf false l nacks after = (nacks ≡ []) × (after ≡ l)
SendsIf true l nacks after = (bytes : List ℕ) × IsNack l bytes × (nacks ≡ bytes ∷ []) × (after ≡ asked l)

-- It receives once. It asks where nothing was waiting, where the datagram asks, or where it became done.
pub record Takes (l : Late) (t : Turn) (after : Late) : Type 0 where
  pub asks : Bool
  pub heard : Late
  pub receives : Receives l (waiting t.answer) [] asks heard
  pub sends : SendsIf asks heard t.nacks after

-- Its turns, one after the other. The one in which it became done is the last one.
abbrev pub TakesAll : Late → List Turn → Late → Type 0
TakesAll l [] after = after ≡ l
TakesAll l (t ∷ ts) after =
    (any_marker l.handled ≡ false) × (between : Late) × Takes l t between × TakesAll between ts after

-- what came, turn by turn
abbrev pub answers : List Turn → List (Option (List ℕ))
answers ts = map (λ t. t.answer) ts

-- what was sent, turn by turn
abbrev pub nacks : List Turn → List (List ℕ)
nacks ts = flat_map (λ t. t.nacks) ts

-- what came calls for one list of turns: it determines the ACKNACKs, turn by turn, and what was taken
abbrev pub GoOneWay : Late → Type 0
GoOneWay l =
    (ts us : List Turn) (a b : Late) → TakesAll l ts a → TakesAll l us b → answers ts ≡ answers us → (ts ≡ us) × (a ≡ b)

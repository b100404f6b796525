-- The open sets of a history, as they are kept: by their first and their last number.
use Rattle.std.specs.Prelude.{◌≡◌, ℕ, ◌+◌, Bool, false, ◌==◌, Option, Some, None, List, [], ◌∷◌, length, map}
use Rattle.dur_base.specs.declared.sample.SetMark.{SetMark}
use Rattle.dur_base.specs.declared.sample.SetMark.TheVariants.{Of}
use Rattle.dur_view.specs.declared.data.Held.{Held}
use Rattle.dur_view.specs.History.{History, start, held}
use Rattle.dur_sets.specs.declared.effect.Open.{Open}

-- what is kept of the members of a writer's open set, whose numbers follow each other
abbrev pub opened : List Held → Option Open
opened [] = None
opened (x ∷ xs) = Some record { first = x.number; last = x.number + length xs }

-- whether a sample of this mark is one more member of the set
abbrev pub goes_on_with : Option Open → SetMark → Bool
goes_on_with (Some kept) (Of f) = f == kept.first
goes_on_with kept mark = false

-- the members are numbered up to the one before the next: what the first number and their count say
abbrev pub RunUpTo : ℕ → List Held → Type 0
RunUpTo next [] = Unit {0}
RunUpTo next (x ∷ xs) = x.number + length (x ∷ xs) ≡ next

-- the open sets of a history, one place for each writer of its start
abbrev pub open_in : History → List (Option Open)
open_in h = map (λ line. opened (held h line.guid)) (start h).writers

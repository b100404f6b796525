-- What a late reader hands out of the samples that it handled: no marker, and of each set all or
-- nothing.
use Rattle.std.specs.Prelude.{ℕ, ◌==◌, ◌&&◌, ◌||◌, Bool, true, false, if◌then◌else◌, Option, Some, None, is_some, List, [], ◌∷◌}
use Rattle.std.specs.List.{list_all}
use Rattle.dur_base.specs.declared.sample.Act.{Act}
use Rattle.dur_base.specs.declared.sample.Act.TheVariants.{Write, Dispose, Unregister, DisposeUnregister, Marker}
use Rattle.dur_base.specs.declared.sample.SetMark.{SetMark}
use Rattle.dur_base.specs.declared.sample.SetMark.TheVariants.{NoSet, End, Of}
use Rattle.dur_base.specs.declared.sample.Sample.{Sample}

abbrev pub marks : Act → Bool
marks Marker = true
marks Write = false
marks Dispose = false
marks Unregister = false
marks DisposeUnregister = false

abbrev pub is_marker : Sample → Bool
is_marker s = marks s.act

abbrev pub set_of_mark : SetMark → Option ℕ
set_of_mark (Of f) = Some f
set_of_mark NoSet = None
set_of_mark End = None

-- the set that a sample is of; a marker is of none
abbrev pub set_of : Sample → Option ℕ
set_of s = if is_marker s then None else set_of_mark s.set

-- both are of one set
abbrev pub is_same_set : Option ℕ → Option ℕ → Bool
is_same_set (Some f) (Some g) = f == g
is_same_set (Some f) None = false
is_same_set None o = false

-- the sample is of a set, and so far only members of that set follow it
abbrev pub is_open : Sample → List Sample → Bool
is_open s later = is_some (set_of s) && list_all (λ x. is_same_set (set_of s) (set_of x)) later

-- What is handed out: all but markers, up to where an open set begins.
abbrev pub handed : List Sample → List Sample
handed [] = []
handed (s ∷ later) =
    if is_open s later then [] else (if is_marker s then handed later else s ∷ handed later)

abbrev pub any_marker : List Sample → Bool
any_marker [] = false
any_marker (s ∷ later) = is_marker s || any_marker later

-- all but markers
abbrev pub unmarked : List Sample → List Sample
unmarked [] = []
unmarked (s ∷ later) = if is_marker s then unmarked later else s ∷ unmarked later

-- the set of the last one, or o where there is none
abbrev pub last_set : Option ℕ → List Sample → Option ℕ
last_set o [] = o
last_set o (s ∷ later) = last_set (set_of s) later

-- What the sets stand for.
use Rattle.std.specs.Prelude.{◌≡◌}
use Rattle.dur_view.specs.History.{History}
use Rattle.dur_sets.specs.declared.sets.Sets.{Sets}
use Rattle.dur_sets.specs.Open.{open_in}

-- The sets stand for the open ones of the history.
abbrev pub StandFor : Sets → History → Type 0
StandFor s h = s.sets.items ≡ open_in h

-- Another way to say which set is open: looking back over the writer's entries, all are of the set, down to the one with its number.
use Rattle.std.specs.Prelude.{ℕ, ◌==◌, if◌then◌else◌, Option, Some, None, List, [], ◌∷◌, ◌++◌, option_map, unwrap_or}
use Rattle.dur_view.specs.Identities.{Guid}
use Rattle.dur_view.specs.declared.data.Held.{Held}
use Rattle.dur_base.specs.declared.sample.SetMark.{SetMark}
use Rattle.dur_base.specs.declared.sample.SetMark.TheVariants.{NoSet, End, Of}
use Rattle.dur_base.specs.declared.entry.Entry.TheVariants.{Took, Skip, Lost}
use Rattle.dur_view.specs.Words.{is_same, writer_line}
use Rattle.dur_view.specs.History.{History, Start, ◌▸◌, goes_on}

-- the members, if these are those of the set f
abbrev pub of_set : ℕ → List Held → Option (List Held)
of_set f members = if goes_on (Of f) members then Some members else None

-- the members of the set f down to its first one, before a sample of this mark and number
abbrev pub back_by : ℕ → Held → SetMark → Option (List Held) → Option (List Held)
back_by f x NoSet before = None
back_by f x End before = None
back_by f x (Of g) before =
    if g == f then (if f == x.number then Some (x ∷ []) else option_map (λ xs. xs ++ x ∷ []) before) else None

-- the members of the writer's set f, if it is the open one
abbrev pub back : ℕ → History → Guid → Option (List Held)
back f (Start v) w = of_set f (unwrap_or (option_map (λ line. line.held) (writer_line v.writers w)) [])
back f (h ▸ Took m u n s) w = if is_same u w then back_by f record { number = n; moment = m; sample = s } s.set (back f h w) else back f h w
back f (h ▸ Skip m u from to) w = if is_same u w then None else back f h w
back f (h ▸ Lost m u) w = if is_same u w then None else back f h w

use Rattle.std.proofs.Common.{◌≡◌, ◌++◌, [], drop, take}
use Rattle.dur_view.specs.Living.{all_made, kept_with}
use Rattle.dur_view.proofs.view_kept.add_kept.Given as goal

-- what is said of the changes so far, and of those that are left
abbrev pub invariant-loop-i : goal.invariant-loop-i
invariant-loop-i l =
    l.list ++ kept_with l.at l.depth l.lines (all_made l.changes) (take l.i (all_made l.changes)) (drop l.i (all_made l.changes))
    ≡ l.initial.list ++ kept_with l.at l.depth l.lines (all_made l.changes) [] (all_made l.changes)

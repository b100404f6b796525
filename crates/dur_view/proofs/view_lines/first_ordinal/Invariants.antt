use Rattle.std.proofs.Common.{◌≡◌, drop}
use Rattle.std.specs.Prelude.{find}
use Rattle.dur_view.specs.View.{is_made_of}
use Rattle.dur_view.specs.Living.{all_made}
use Rattle.dur_view.proofs.view_lines.first_ordinal.Given as goal

-- what is looked for is among the changes that are left
abbrev pub invariant-loop-change : goal.invariant-loop-change
invariant-loop-change l = find (is_made_of l.key) (all_made l.living) ≡ find (is_made_of l.key) (all_made (drop l.change-index l.living))

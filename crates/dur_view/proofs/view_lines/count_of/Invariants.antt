use Rattle.std.proofs.Common.{◌≡◌, ◌≤◌, take}
use Rattle.std.specs.Prelude.{count_by}
use Rattle.dur_view.specs.View.{is_made_of}
use Rattle.dur_view.specs.Living.{all_made}
use Rattle.dur_view.proofs.view_lines.count_of.Given as goal

abbrev pub invariant-loop-change : goal.invariant-loop-change
invariant-loop-change l = (l.count ≡ count_by (is_made_of l.key) (all_made (take l.change-index l.living))) × (l.count ≤ l.change-index)

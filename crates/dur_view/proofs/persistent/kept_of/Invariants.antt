use Rattle.std.proofs.Common.{◌≡◌, map, take}
use Rattle.std.specs.Prelude.{filter}
use Rattle.dur_view.specs.Persistent.{kept_among, kept_stays}
use Rattle.dur_view.proofs.persistent.kept_of.Given as goal

abbrev pub invariant-loop-kept : goal.invariant-loop-kept
invariant-loop-kept l = l.list ≡ map (kept_among l.view) (filter (kept_stays l.view) (take l.kept-index l.view.kept))

use Rattle.std.proofs.Common.{◌≡◌, map, take}
use Rattle.dur_view.specs.Fates.{told}
use Rattle.dur_view.specs.Snapshot.{change_of}
use Rattle.dur_view.specs.Living.{all_made}
use Rattle.dur_view.proofs.entitled.entitled_over.Given as goal

abbrev pub invariant-loop-change : goal.invariant-loop-change
invariant-loop-change l = l.list ≡ map change_of (map told (all_made (take l.change-index l.change-items)))

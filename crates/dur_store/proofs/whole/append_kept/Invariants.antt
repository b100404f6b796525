use Rattle.std.proofs.Common.{◌≡◌, ◌++◌, map}
use Rattle.dur_store.specs.Parts.{moved}
use Rattle.dur_store.proofs.whole.append_kept.Given as goal

abbrev pub invariant-loop-change : goal.invariant-loop-change
invariant-loop-change l = l.all ++ map (moved l.base) l.change-iterator.rest.items ≡ l.fn.all ++ map (moved l.base) l.fn.kept

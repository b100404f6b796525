use Rattle.std.proofs.Common.{◌≡◌, ℕ, ◌<◌, Some}
use Rattle.std.specs.Prelude.{slice_get}
use Rattle.std.specs.declared.cmp.Ordering.TheVariants.{Greater}
use Rattle.dur_view.specs.Identities.{Key}
use Rattle.dur_view.specs.Fates.{key_cmp}
use Rattle.dur_view.proofs.view_keys.place_of.Given as goal

abbrev pub invariant-loop-at : goal.invariant-loop-at
invariant-loop-at l = (k : ℕ) (x : Key) → k < l.at → slice_get l.keys k ≡ Some x → key_cmp l.key x ≡ Greater

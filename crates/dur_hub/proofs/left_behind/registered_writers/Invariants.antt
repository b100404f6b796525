use Rattle.std.proofs.Common.{◌≡◌, ◌<◌, ℕ, take, false, get_or, length}
use Rattle.std.specs.Prelude.{◌==◌}
use Rattle.std.specs.List.{list_any}
use Rattle.dur_view.specs.declared.data.Instance.{Instance}
use Rattle.dur_hub.proofs.left_behind.registered_writers.Given as goal

abbrev pub invariant-loop-instance : goal.invariant-loop-instance
invariant-loop-instance l = record {
  long : length l.flags.items ≡ length l.view.writers;
  noted : (i : ℕ) → i < length l.view.writers
      → get_or l.flags.items i false ≡ list_any (λ (line : Instance). list_any (λ r. r == i) line.registered) (take l.instance-index l.view.instances);
}

use Rattle.std.proofs.Common.{◌≡◌, ◌++◌}
use Rattle.std.specs.List.{filter_map}
use Rattle.rtps_discovery.specs.Lines.{writer_at}
use Rattle.rtps_discovery.proofs.directory.Directory.writers.Given as goal

abbrev pub invariant-loop-entry : goal.invariant-loop-entry
invariant-loop-entry l =
    l.lines.items ++ filter_map (λ e. writer_at l.plan l.self l.now e.1) l.entry-iterator ≡ l.plan.writers ++ filter_map (λ e. writer_at l.plan l.self l.now e.1) l.self.entries.entries

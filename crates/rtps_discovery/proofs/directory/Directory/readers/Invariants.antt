use Rattle.std.proofs.Common.{◌≡◌, ◌++◌}
use Rattle.std.specs.List.{filter_map}
use Rattle.rtps_discovery.specs.Lines.{reader_at}
use Rattle.rtps_discovery.proofs.directory.Directory.readers.Given as goal

abbrev pub invariant-loop-entry : goal.invariant-loop-entry
invariant-loop-entry l =
    l.lines.items ++ filter_map (λ e. reader_at l.plan l.self l.now e.1) l.entry-iterator ≡ l.plan.readers ++ filter_map (λ e. reader_at l.plan l.self l.now e.1) l.self.entries.entries

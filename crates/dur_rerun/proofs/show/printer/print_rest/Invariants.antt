use Rattle.std.proofs.Common.{◌≡◌, ◌≤◌, ◌+◌, ◌-◌, ◌^◌, ◌++◌, ℕ, List, [], true}
use Rattle.std.specs.Prelude.{if◌then◌else◌}
use Rattle.std.specs.Io.KnownBytes.{Consumes, IsAtEnd}
use Rattle.dur_rerun.specs.Saying.{wrote}
use Rattle.dur_rerun.specs.Input.Records.{total}
use Rattle.dur_rerun.specs.Show.Printing.{IsCounted, Holds}
use Rattle.dur_rerun.proofs.show.printer.print_rest.Given as goal

-- the lines of the records that were handed out were sent
abbrev pub invariant-pieces : goal.invariant-pieces
invariant-pieces g l = record {
  counted : IsCounted l.printer;
  seen : List ℕ;
  consumed : Consumes (g.S.Source.left l.fn.input) (g.S.Source.left l.input) seen;
  sent : List ℕ;
  holds : Holds l.fn.printer.own l.fn.printer.feed.before (l.fn.printer.feed.left ++ seen) sent l.printer;
  none : l.printer.held.items ≡ [];
  end : l.ended ≡ true → IsAtEnd (g.S.Source.left l.input);
  written : g.K.Machine.tells → (g.K.Machine.world l.out).now ≡ wrote sent (g.K.Machine.world l.fn.out).now;
  disk : g.K.Machine.disk_faults l.out ≡ g.K.Machine.disk_faults l.fn.out;
  later_read : g.S.Source.faults l.fn.input ≤ g.S.Source.faults l.input;
  later_write : g.K.Machine.sink_faults l.fn.out ≤ g.K.Machine.sink_faults l.out;
}

-- octets that may come, octets that may be handed out, and whether the end was seen
abbrev pub decreases-pieces : goal.decreases-pieces
decreases-pieces g l = (2 ^ 40 + 65536 - total l.printer.feed) + (2 ^ 40 - (l.printer.feed.before + l.printer.feed.taken)) + (if l.ended then 0 else 1)

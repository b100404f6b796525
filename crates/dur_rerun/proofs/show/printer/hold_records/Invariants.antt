use Rattle.std.proofs.Common.{◌≡◌, ◌+◌, ◌-◌, ◌^◌, ℕ, List, false}
use Rattle.dur_rerun.specs.Show.Printing.{HandsOn, IsCounted, Holds}
use Rattle.dur_rerun.proofs.show.printer.hold_records.Given as goal

abbrev pub invariant-records : goal.invariant-records
invariant-records l = record {
  counted : IsCounted l.printer;
  own_is : l.printer.own ≡ l.fn.printer.own;
  hands : HandsOn l.fn.printer.feed l.printer.feed false;
  holds : (own : List ℕ) (before : ℕ) (octets sent : List ℕ) → Holds own before octets sent l.fn.printer → Holds own before octets sent l.printer;
}

abbrev pub decreases-records : goal.decreases-records
decreases-records l = 2 ^ 40 - (l.printer.feed.before + l.printer.feed.taken)

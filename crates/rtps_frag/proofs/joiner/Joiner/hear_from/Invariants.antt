use Rattle.std.proofs.Common.{length, ◌-◌}
use Rattle.rtps_message.specs.Facts.{AreGood}
use Rattle.rtps_frag.proofs.Runs.{Stands}
use Rattle.rtps_frag.proofs.joiner.Joiner.hear_from.Given as goal

abbrev pub invariant-loop-at : goal.invariant-loop-at
invariant-loop-at l = record {
  stands : Stands l.own l.datagram (record { context = l.fn.start; samples = l.fn.self }) l.facts l.asks (record { context = l.context; samples = l.self }) l.at;
  good : AreGood l.facts;
}

abbrev pub decreases-loop-at : goal.decreases-loop-at
decreases-loop-at l = length l.datagram - l.at

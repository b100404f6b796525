use Rattle.rtps_message.specs.Facts.{AreGood}
use Rattle.std.specs.List.{sum_by}
use Rattle.rel_writer.specs.LateReaders.{Late}
use Rattle.rel_writer.specs.Room.{HasRoom, brings}
use Rattle.rel_writer.specs.Standing.{Stands}
use Rattle.rel_writer.proofs.HearsFacts.{Hearing}
use Rattle.rel_writer.proofs.late.LateReader.hear_all.Given as goal

abbrev pub invariant-loop-fact : goal.invariant-loop-fact
invariant-loop-fact l = record {
  heard : (m : Late) → Stands l.fn.self m → HasRoom (sum_by brings l.fn.facts) l.fn.self m
      → Hearing l.self m l.fn.facts l.fact-iterator.rest.items l.asked;
  good : AreGood l.fact-iterator.rest.items;
}

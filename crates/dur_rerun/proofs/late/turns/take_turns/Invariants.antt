use Rattle.std.proofs.Common.{◌≡◌, ◌≤◌, length, false}
use Rattle.rel_writer.specs.LateReaders.{Late}
use Rattle.rel_writer.specs.Sets.{any_marker}
use Rattle.rel_writer.specs.Standing.{Stands}
use Rattle.dur_rerun.specs.Late.Steps.{GoesOn}
use Rattle.dur_rerun.proofs.late.turns.take_turns.Given as goal

-- so many turns were taken, and it is not done
abbrev pub invariant-loop-taken : goal.invariant-loop-taken
invariant-loop-taken g l = record {
  goes : (m : Late) → Stands l.fn.late m → any_marker m.handled ≡ false → GoesOn m l.taken l.late g.L.Link.tells
      (g.L.Link.heard l.fn.link) (g.L.Link.heard l.link) (g.L.Link.sent l.fn.link) (g.L.Link.sent l.link);
  room : length l.octets ≡ 65507;
  later : g.L.Link.link_faults l.fn.link ≤ g.L.Link.link_faults l.link;
}

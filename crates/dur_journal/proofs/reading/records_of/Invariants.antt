use Rattle.std.proofs.Common.{length}
use Rattle.dur_journal.proofs.Records.{SoFar}
use Rattle.dur_journal.proofs.reading.records_of.Given as goal

abbrev pub invariant-records : goal.invariant-records
invariant-records l = SoFar l.version l.start l.fn.bytes l.all.items l.count l.rest l.past

abbrev pub decreases-records : goal.decreases-records
decreases-records l = length l.rest

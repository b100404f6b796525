use Rattle.std.proofs.Common.{◌≡◌, ◌++◌, ◌<◌, length}
use Rattle.std.specs.List.{AllByRecursion}
use Rattle.dur_qos.specs.Written.{readers_text, IsOctets}
use Rattle.dur_qos.proofs.writing.put_readers.Given as goal

abbrev pub invariant-loop-rest : goal.invariant-loop-rest
invariant-loop-rest l = record {
  text : l.fn.out ++ readers_text l.topics l.readers ≡ l.out ++ readers_text l.topics l.rest;
  places : AllByRecursion (λ r. r.topic < length l.topics) l.rest;
  typed : AllByRecursion (λ r. IsOctets 16 r.guid) l.rest → AllByRecursion (λ r. IsOctets 16 r.guid) l.readers;
}

abbrev pub decreases-loop-rest : goal.decreases-loop-rest
decreases-loop-rest l = length l.rest

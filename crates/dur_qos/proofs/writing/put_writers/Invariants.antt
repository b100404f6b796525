use Rattle.std.proofs.Common.{◌≡◌, ◌++◌, ◌<◌, length}
use Rattle.std.specs.List.{AllByRecursion}
use Rattle.dur_qos.specs.Written.{writers_text, IsOctets}
use Rattle.dur_qos.proofs.writing.put_writers.Given as goal

abbrev pub invariant-loop-rest : goal.invariant-loop-rest
invariant-loop-rest l = record {
  text : l.fn.out ++ writers_text l.topics l.writers ≡ l.out ++ writers_text l.topics l.rest;
  places : AllByRecursion (λ w. w.topic < length l.topics) l.rest;
  typed : AllByRecursion (λ w. IsOctets 16 w.guid) l.rest → AllByRecursion (λ w. IsOctets 16 w.guid) l.writers;
}

abbrev pub decreases-loop-rest : goal.decreases-loop-rest
decreases-loop-rest l = length l.rest

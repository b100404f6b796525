use Rattle.std.proofs.Common.{◌≡◌, ◌++◌, length}
use Rattle.std.specs.List.{AllByRecursion}
use Rattle.dur_record.specs.Texts.{entries_text, IsTypedEntry}
use Rattle.dur_record.proofs.writing.write_entries.Given as goal

abbrev pub invariant-loop-rest : goal.invariant-loop-rest
invariant-loop-rest l = record {
  text : l.fn.out ++ entries_text l.entries ≡ l.out ++ entries_text l.rest;
  typed : AllByRecursion IsTypedEntry l.rest → AllByRecursion IsTypedEntry l.entries;
}

abbrev pub decreases-loop-rest : goal.decreases-loop-rest
decreases-loop-rest l = length l.rest

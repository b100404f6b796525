use Rattle.std.proofs.Common.{length}
use Rattle.std.specs.declared.option.Option.{Option}
use Rattle.dur_view.specs.History.{History}
use Rattle.dur_record.specs.Entries.{SpellEach, with_entries}
use Rattle.dur_record.specs.Past.{IsPast}
use Rattle.dur_record.proofs.entries.all_entries.Given as goal

abbrev pub invariant-text : goal.invariant-text
invariant-text l = record {
  spelt : (h : Option History) → IsPast l.fn.past h → SpellEach l.version h l.fn.text.rest l.entries l.text.rest;
  past : (h : Option History) → IsPast l.fn.past h → IsPast l.past (with_entries h l.entries);
}

abbrev pub decreases-text : goal.decreases-text
decreases-text l = length l.text.rest

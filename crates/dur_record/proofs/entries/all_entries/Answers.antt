use Rattle.std.proofs.Common.{sym, subst}
use Rattle.std.specs.declared.option.Option.{Option}
use Rattle.dur_view.specs.History.{History}
use Rattle.dur_record.specs.Entries.{with_entries}
use Rattle.dur_record.specs.Past.{IsPast}
use Rattle.dur_record.proofs.EntryLists.{entry_takes, each_more, entries_more, at_end, some_left, stop_within, stop_told}
use Rattle.dur_record.proofs.Runs.{run_spells}
use Rattle.dur_record.specs.Entries.{entry_row}
use Rattle.dur_record.proofs.entries.all_entries.Goals as goal

pub text-smaller : goal.text-smaller
text-smaller c =
    let h = with_entries c.requires.0 c.text.entries in
    entry_takes c.args.version h c.text.text.rest c.in-Ok.entry c.entry.new.self.rest (run_spells (entry_row c.args.version h) _ _ _ (c.in-Ok.ensures h (c.text.invariant.past c.requires.0 c.requires.1)))

pub fault_of-requires : goal.fault_of-requires
fault_of-requires c =
    rw c.len-len.ensures.value (stop_within c.args.version c.requires.0 c.args.text.now.rest c.text.entries c.text.text.rest c.in-Err.stop (c.text.invariant.spelt c.requires.0 c.requires.1) (c.in-Err.ensures _ (c.text.invariant.past c.requires.0 c.requires.1)))

pub returns-in-Err-clause-err : goal.returns-in-Err-clause-err
returns-in-Err-clause-err c h is =
    rw (c.fault_of.ensures, c.len-len.ensures.value) (stop_told c.args.version h c.args.text.now.rest c.text.entries c.text.text.rest c.in-Err.stop (c.text.invariant.spelt h is) (some_left c.text.text.rest c.text-test.ensures) (c.in-Err.ensures _ (c.text.invariant.past h is)))

pub returns-clause-ok : goal.returns-clause-ok
returns-clause-ok c h is = at_end c.args.version h c.args.text.now.rest c.text.entries c.text.text.rest (c.text.invariant.spelt h is) c.text-test.ensures

pub text-preserved : goal.text-preserved
text-preserved c = rw c.in_ok-push-in-Ok.ensures.ok (record {
  spelt = λ h is.
      each_more c.args.version h c.args.text.now.rest c.text.entries c.text.text.rest c.in-Ok.entry c.entry.new.self.rest (c.text.invariant.spelt h is)
      (run_spells (entry_row c.args.version (with_entries h c.text.entries)) _ _ _ (c.in-Ok.ensures _ (c.text.invariant.past h is)));
  past = λ h is.
      subst (λ (p : Option History). IsPast c.take.new.self p) (sym (entries_more h c.text.entries c.in-Ok.entry)) (c.in_ok-take-in-Ok.ensures _ (c.text.invariant.past h is));
})

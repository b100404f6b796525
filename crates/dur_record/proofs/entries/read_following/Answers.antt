use Rattle.std.proofs.Common.{Some, [], subst}
use Rattle.std.specs.declared.option.Option.{Option}
use Rattle.dur_view.specs.History.{History, AllFollow, ◌+>◌}
use Rattle.dur_record.specs.Entries.{SpellsEntries, with_entries}
use Rattle.dur_record.specs.Past.{IsPast}
use Rattle.dur_record.proofs.Answering.{answers_entries}
use Rattle.dur_record.proofs.Following.{entries_follow, history_with, ok_map}
use Rattle.dur_record.proofs.entries.read_following.Goals as goal

pub returns : goal.returns
returns c h is = record {
  entries = answers_entries _ (Some h) _ _ (c.all_entries.ensures.ok (Some h) is) (c.all_entries.ensures.err (Some h) is);
  follow =
      ok_map c.all_entries.result (SpellsEntries c.args.version (Some h) c.args.bytes) (AllFollow h)
      (λ es s. entries_follow c.args.version h c.args.bytes es [] s) (c.all_entries.ensures.ok (Some h) is);
  past =
      ok_map c.all_entries.result (λ es. IsPast c.all_entries.new.past (with_entries (Some h) es))
      (λ es. IsPast c.all_entries.new.past (Some (h +> es)))
      (λ es p. subst (λ (o : Option History). IsPast c.all_entries.new.past o) (history_with h es) p)
      (c.all_entries.ensures.past (Some h) is);
}

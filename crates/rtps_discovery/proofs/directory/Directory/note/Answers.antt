use Rattle.std.proofs.Common.{sym, rules}
use Rattle.rtps_discovery.proofs.Noting.{note_passed, note_counted, same_entries}
use Rattle.rtps_discovery.proofs.directory.Directory.note.Goals as goal

pub returns-in-None-entry_after-clause-ok : goal.returns-in-None-entry_after-clause-ok
returns-in-None-entry_after-clause-ok c before own keeps =
    note_passed c.args.self.now.entries c.args.self.now.count c.in-Some-checked_add.place before c.args.told.now c.in-Some.source c.guid-2.inside.0 c.copied-old.result (search rules) (search rules) (search rules) (search rules) own keeps

pub returns-in-Ok-clause-ok : goal.returns-in-Ok-clause-ok
returns-in-Ok-clause-ok c before own keeps =
    note_counted c.args.self.now.entries c.insert.new.self c.args.self.now.count c.in-Some-checked_add.place before c.args.told.now c.in-Some.source c.guid-2.inside.0 c.copied-old.result c.in-Some-entry_after.entry (search rules) (search rules) (search rules) (search rules) (search rules) c.in-Ok.ensures.updates.0 own keeps

pub returns-in-Err-clause-err : goal.returns-in-Err-clause-err
returns-in-Err-clause-err c before keeps =
    same_entries c.args.self.now.entries c.insert.new.self c.args.self.now.count before (sym c.in-Err.ensures.err) keeps

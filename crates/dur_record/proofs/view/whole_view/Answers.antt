use Rattle.dur_record.specs.Views.{view_row}
use Rattle.dur_record.proofs.Runs.{run_spells, spells_within}
use Rattle.dur_record.proofs.EntryLists.{some_left}
use Rattle.dur_record.proofs.ViewTexts.{view_stop_within, view_stop_told, whole_view, more_than_view}
use Rattle.dur_record.proofs.ViewTold.{view_told}
use Rattle.dur_record.proofs.view.whole_view.Goals as goal

pub overflow_sub-result : goal.overflow_sub-result
overflow_sub-result c = rw (c.len.ensures.value, c.len-len.ensures.value) (spells_within (view_row c.args.version) c.args.text.now.rest c.in-Ok.view c.view.new.self.rest (run_spells (view_row c.args.version) _ _ _ c.in-Ok.ensures))

pub fault_of-requires : goal.fault_of-requires
fault_of-requires c = rw c.len-len.ensures.value (view_stop_within c.args.version c.args.text.now.rest c.in-Err.stop c.in-Err.ensures)

pub returns-then-is_empty-clause-ok : goal.returns-then-is_empty-clause-ok
returns-then-is_empty-clause-ok c = whole_view c.args.version c.args.text.now.rest c.in-Ok.view c.view.new.self.rest (run_spells (view_row c.args.version) _ _ _ c.in-Ok.ensures) c.if-is_empty.ensures

pub returns-else-is_empty-clause-err : goal.returns-else-is_empty-clause-err
returns-else-is_empty-clause-err c = rw (c.len-len.ensures.value, c.len.ensures.value) (more_than_view c.args.version c.args.text.now.rest c.in-Ok.view c.view.new.self.rest (run_spells (view_row c.args.version) _ _ _ c.in-Ok.ensures) (some_left c.view.new.self.rest c.if-is_empty.ensures))

pub returns-in-Err-clause-err : goal.returns-in-Err-clause-err
returns-in-Err-clause-err c = rw (c.fault_of.ensures, c.len-len.ensures.value) (view_stop_told c.args.version c.args.text.now.rest c.in-Err.stop c.in-Err.ensures)

pub returns-then-is_empty-clause-sound : goal.returns-then-is_empty-clause-sound
returns-then-is_empty-clause-sound c = view_told c.args.version c.args.text.now.rest c.in-Ok.view c.view.new.self.rest (run_spells (view_row c.args.version) _ _ _ c.in-Ok.ensures)

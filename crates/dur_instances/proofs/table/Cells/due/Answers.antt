use Rattle.std.proofs.Common.{sym, ap, ◌∙◌}
use Rattle.dur_instances.specs.Due.{due_cells}
use Rattle.dur_instances.proofs.ByKey.{due-by}
use Rattle.dur_instances.proofs.table.Cells.due.Goals as goal

pub returns : goal.returns
returns c = c.due_by.ensures ∙ sym (due-by c.args.longest c.entries.result c.entries.ensures.distinct) ∙ ap (due_cells c.args.longest) c.entries.ensures.list

use Rattle.std.proofs.Common.{length, sym, ap, ◌∙◌}
use Rattle.dur_instances.specs.Table.{CellsNow}
use Rattle.dur_instances.proofs.ByKey.{length-by}
use Rattle.dur_instances.proofs.table.Cells.len.Goals as goal

pub returns : goal.returns
returns c = c.len.ensures.len ∙ sym (length-by c.self.inside.map.entries c.self.invariant) ∙ ap (λ (v : CellsNow). length v.list) c.self.view_is

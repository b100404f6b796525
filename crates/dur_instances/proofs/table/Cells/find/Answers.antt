use Rattle.std.proofs.Common.{Some, None, ap, ◌∙◌}
use Rattle.dur_instances.specs.Table.{CellsNow}
use Rattle.dur_instances.proofs.ByKey.{found-in}
use Rattle.dur_instances.proofs.table.Cells.find.Goals as goal

pub returns-in-Some : goal.returns-in-Some
returns-in-Some c =
    ap (λ x. Some x) c.cell_of.ensures
    ∙ found-in c.key.inside.0 c.args.key c.self.inside.map.entries c.args.self.now.list (Some c.in-Some.state.now) c.key.view_is c.in-Some.ensures.value (ap (λ (v : CellsNow). v.list) c.self.view_is)

pub returns-in-None : goal.returns-in-None
returns-in-None c = found-in c.key.inside.0 c.args.key c.self.inside.map.entries c.args.self.now.list None c.key.view_is c.in-None.ensures.value (ap (λ (v : CellsNow). v.list) c.self.view_is)

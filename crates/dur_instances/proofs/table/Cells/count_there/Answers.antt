use Rattle.std.proofs.Common.{not, length, sym, ap, ◌∙◌}
use Rattle.dur_view.specs.Fates.{is_long}
use Rattle.dur_instances.specs.Layout.{cells_there}
use Rattle.dur_instances.specs.Table.{CellsNow}
use Rattle.dur_instances.proofs.ByKey.{count-by, count-values}
use Rattle.dur_instances.proofs.table.Cells.count_there.Goals as goal

pub returns : goal.returns
returns c =
    let longest = c.args.longest in
    let now = c.args.now in
    let es = c.self.inside.map.entries in
    c.count_awake.ensures ∙ sym (count-by (λ x. not (is_long x.quiet longest now)) es c.self.invariant ∙ count-values (λ s. not (is_long s.quiet longest now)) es)
    ∙ ap (λ (v : CellsNow). length (cells_there v.list longest now)) c.self.view_is

use Rattle.std.proofs.Common.{◌≡◌, map, rules, refl, ap, ◌∙◌}
use Rattle.dur_view.specs.Fates.{is_nobody}
use Rattle.dur_instances.specs.Layout.{places, settled}
use Rattle.dur_instances.specs.Table.{CellsNow, cells_by, settled_by}
use Rattle.dur_instances.proofs.ByKey.{map-retained, map-by}
use Rattle.dur_instances.proofs.table.Cells.settle.Goals as goal

pub returns-clause-list : goal.returns-clause-list
returns-clause-list c =
    let regs = c.args.list.now in
    let m = c.args.moment in
    let es = c.self.inside.map.entries in
    let kept : c.retain.new.self.entries ≡ map (λ e. (e.0, settled_by (is_nobody (places regs e.0)) m e.1)) es =
    map-retained _ (λ e. settled_by (is_nobody (places regs e.0)) m e.1) _ (λ k v b w g call. search rules) _ _ c.retain.ensures.filtered in
    ap (λ l. cells_by l) kept ∙ map-by (settled regs m) (λ x. refl) (λ e. settled_by (is_nobody (places regs e.0)) m e.1) (λ e. refl) es
    ∙ ap (λ (v : CellsNow). map (settled regs m) v.list) c.self.view_is

use Rattle.std.proofs.Common.{◌≡◌, not, filter, rules, ap, ◌∙◌}
use Rattle.indexmap.proofs.CallerLemmas.{filter-RetainsPairs}
use Rattle.dur_view.specs.Fates.{is_long}
use Rattle.dur_instances.specs.Table.{CellsNow, cells_by}
use Rattle.dur_instances.proofs.ByKey.{filter-by}
use Rattle.dur_instances.proofs.table.Cells.sweep.Goals as goal

pub returns-clause-list : goal.returns-clause-list
returns-clause-list c =
    let longest = c.args.longest in
    let now = c.args.now in
    let es = c.self.inside.map.entries in
    let kept : c.retain.new.self.entries ≡ filter (λ e. not (is_long e.1.quiet longest now)) es = filter-RetainsPairs _ _ _ (λ k v b w g call. search rules) _ _ c.retain.ensures.filtered in
    ap (λ l. cells_by l) kept ∙ filter-by (λ x. not (is_long x.quiet longest now)) es c.self.invariant ∙ ap (λ (v : CellsNow). filter (λ x. not (is_long x.quiet longest now)) v.list) c.self.view_is

use Rattle.std.proofs.Common.{◌≡◌, ◌+◌, true, false, cond, get_or, Some, None, List, sym, ap, ◌∙◌, subst}
use Rattle.std.specs.Prelude.{slice_get, unwrap_or, option_map, is_some}
use Rattle.dur_view.specs.Words.{is_key}
use Rattle.dur_instances.specs.declared.cells.Cell.{Cell}
use Rattle.dur_instances.specs.Layout.{cell_in, raised}
use Rattle.dur_instances.proofs.CellLists.{AllBelow, NotAbove, stands_at, get-at, lt-there, cell_in-at, none-there, found-there}
use Rattle.dur_instances.proofs.Tallied.{counted, not-counted}
use Rattle.dur_instances.proofs.tallies.count_change.Goals as goal

pub returns-then-is_at : goal.returns-then-is_at
returns-then-is_at c = λ left is.
    let k = c.args.change.now.sample.key in
    let at = c.place_of-at.result in
    let v = c.as_slice-cells.ensures.value in
    let cell = c.index-cells-at.result in
    let stands : stands_at c.args.cells.now at k ≡ true = ap (λ (l : List Cell). stands_at l at k) (sym v) ∙ sym c.is_at.ensures ∙ c.if-is_at.true in
    let here : slice_get c.args.cells.now at ≡ Some cell = get-at c.args.cells.now at cell (lt-there k c.args.cells.now at stands) (c.index-cells-at.is ∙ ap (λ (l : List Cell). get_or l at cell) v) in
    let own : is_key cell.key k ≡ true = ap (λ o. unwrap_or (option_map (λ x. is_key x.key k) o) false) (sym here) ∙ stands in
    let before = subst (λ (l : List Cell). AllBelow k l at) v c.place_of-at.ensures.before in
    let after = subst (λ (l : List Cell). NotAbove k l at) v c.place_of-at.ensures.after in
    let found : cell_in c.args.cells.now k ≡ Some cell = sym (found-there k c.args.cells.now at cell true c.as_slice-cells.ensures.order before after here own) in
    counted c.args.cells.now left c.args.change.now at cell c.as_slice-cells.ensures.order before here own found c.args.tallies.now.items is c.index_mut.result.now c.add.new.tally c.index_mut.ensures.value
    (c.add.ensures ∙ ap (λ n. record { first = cond (is_some c.index_mut.result.now.first) c.index_mut.result.now.first (Some n); count = c.index_mut.result.now.count + 1 }) (c.raised.ensures ∙ ap (λ (z : Cell). raised c.args.change.now.at z.count) (sym c.index-cells-at.is)))

pub returns-else-is_at : goal.returns-else-is_at
returns-else-is_at c = λ left is.
    let k = c.args.change.now.sample.key in
    let at = c.place_of-at.result in
    let v = c.as_slice-cells.ensures.value in
    let absent : cell_in c.args.cells.now k ≡ None = cell_in-at k c.args.cells.now at c.as_slice-cells.ensures.order (subst (λ (l : List Cell). AllBelow k l at) v c.place_of-at.ensures.before)
    (subst (λ (l : List Cell). NotAbove k l at) v c.place_of-at.ensures.after)
    ∙ none-there k c.args.cells.now at (ap (λ (l : List Cell). stands_at l at k) (sym v) ∙ sym c.is_at.ensures ∙ c.if-is_at.false) in
    is ∙ not-counted c.args.cells.now left c.args.change.now absent

use Rattle.std.proofs.Common.{◌≡◌, ◌<◌, ◌++◌, [], ◌∷◌, Some, None, List, length, get_or, sym, ap, ◌∙◌, subst, arith}
use Rattle.std.specs.Prelude.{slice_get, OnOk}
use Rattle.dur_view.specs.declared.data.Kept.{Kept}
use Rattle.dur_instances.specs.declared.cells.Cell.{Cell}
use Rattle.dur_instances.specs.declared.tallies.Tally.{Tally}
use Rattle.dur_instances.specs.Layout.{raised}
use Rattle.dur_instances.specs.Listing.{kept_told}
use Rattle.dur_instances.proofs.CellLists.{AllBelow, NotAbove, get-at}
use Rattle.dur_instances.proofs.Spots.{known-at, at-some, shown}
use Rattle.dur_instances.proofs.lines.show.Goals as goal

lt : (c : goal.After-place_of-at) → c.place_of-at.result < length c.args.cells.now
lt c =
    known-at c.args.change.now.sample.key c.as_slice-cells.result.now c.args.cells.now c.place_of-at.result c.as_slice-cells.ensures.value c.as_slice-cells.ensures.order c.place_of-at.ensures.before c.place_of-at.ensures.after c.requires.known

pub bounds-cells-at : goal.bounds-cells-at
bounds-cells-at c = let same = ap length c.as_slice-cells.ensures.value in let here = lt c in omega arith

pub bounds-cells-at-2 : goal.bounds-cells-at-2
bounds-cells-at-2 c = let same = ap length c.as_slice-cells.ensures.value in let here = lt c in omega arith

pub bounds-spots-at : goal.bounds-spots-at
bounds-spots-at c =
    let same = c.requires.spots in
    let here = known-at c.args.change.now.sample.key c.as_slice-cells.result.now c.args.cells.now c.place_of-at.result c.as_slice-cells.ensures.value c.as_slice-cells.ensures.order c.place_of-at.ensures.before c.place_of-at.ensures.after c.requires.known in
    omega arith

pub bounds-all-at : goal.bounds-all-at
bounds-all-at c =
    let same = c.requires.all in
    let here = known-at c.args.change.now.sample.key c.as_slice-cells.result.now c.args.cells.now c.place_of-at.result c.as_slice-cells.ensures.value c.as_slice-cells.ensures.order c.place_of-at.ensures.before c.place_of-at.ensures.after c.requires.known in
    omega arith

pub bounds-before-at : goal.bounds-before-at
bounds-before-at c =
    let same = c.requires.before in
    let here = known-at c.args.change.now.sample.key c.as_slice-cells.result.now c.args.cells.now c.place_of-at.result c.as_slice-cells.ensures.value c.as_slice-cells.ensures.order c.place_of-at.ensures.before c.place_of-at.ensures.after c.requires.known in
    omega arith

pub kept_of-requires : goal.kept_of-requires
kept_of-requires c =
    let same = c.requires.before in
    let here = known-at c.args.change.now.sample.key c.as_slice-cells.result.now c.args.cells.now c.place_of-at.result c.as_slice-cells.ensures.value c.as_slice-cells.ensures.order c.place_of-at.ensures.before c.place_of-at.ensures.after c.requires.known in
    c.requires.few c.place_of-at.result _ (at-some c.args.before.now c.place_of-at.result record { first = None; count = 0 } (omega arith))

pub returns : goal.returns
returns c = λ longest now left earlier spots all before stays.
    let k = c.args.change.now.sample.key in
    let at = c.place_of-at.result in
    let v = c.as_slice-cells.ensures.value in
    let cell = c.index-cells-at.result in
    let here = known-at k c.as_slice-cells.result.now c.args.cells.now at v c.as_slice-cells.ensures.order c.place_of-at.ensures.before c.place_of-at.ensures.after c.requires.known in
    let found : slice_get c.args.cells.now at ≡ Some cell = get-at c.args.cells.now at cell here (c.index-cells-at.is ∙ ap (λ (l : List Cell). get_or l at cell) v) in
    let none : Tally = record { first = None; count = 0 } in
    let later : c.raised-later.result ≡ raised c.args.change.now.at cell.count = c.raised-later.ensures ∙ ap (λ (z : Cell). raised c.args.change.now.at z.count) (sym c.index-cells-at.is) in
    let kept-is = c.in_ok-kept_of.ensures
    ∙ ap (λ n. kept_told c.args.depth (get_or c.args.spots.now at 0) (get_or c.args.all.now at none).first n (get_or c.args.before.now at none).count c.args.change.now) later
    ∙ shown c.args.cells.now longest now left earlier c.args.change.now c.args.depth at cell c.as_slice-cells.ensures.order (subst (λ (l : List Cell). AllBelow k l at) v c.place_of-at.ensures.before)
    (subst (λ (l : List Cell). NotAbove k l at) v c.place_of-at.ensures.after) found c.requires.known stays c.args.spots.now c.args.all.now c.args.before.now spots all before none none 0 in
    subst (λ (x : Kept). OnOk c.push.result (c.push.new.self ≡ c.args.list.now ++ x ∷ [])) kept-is c.push.ensures.ok

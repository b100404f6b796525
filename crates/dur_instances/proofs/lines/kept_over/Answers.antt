use Rattle.std.proofs.Common.{◌≡◌, ◌+◌, ◌<◌, ◌++◌, [], ◌∷◌, Some, None, List, length, drop, true, sym, ap, ◌∙◌, subst, arith, rules}
use Rattle.std.specs.Prelude.{slice_get, is_some}
use Rattle.dur_instances.specs.declared.cells.Cell.{Cell}
use Rattle.dur_instances.specs.declared.changes.Change.{Change}
use Rattle.dur_instances.specs.declared.tallies.Tally.{Tally}
use Rattle.dur_instances.specs.Layout.{cell_in, left_of, cells_there, kept_shown, all_shown}
use Rattle.dur_instances.specs.Places.{kept_in, with_change}
use Rattle.dur_instances.specs.Listing.{left_at, with_end, spots_of, tallies_of}
use Rattle.dur_view.specs.declared.data.Kept.{Kept}
use Rattle.dur_instances.proofs.AnyLists.{append-one}
use Rattle.dur_instances.proofs.PlaceLists.{kept-at}
use Rattle.dur_instances.proofs.Spots.{length-spots, left-some, each-kept}
use Rattle.dur_instances.proofs.Tallied.{seen, seen-next, seen-few, few-tallies, left-with}
use Rattle.dur_instances.proofs.lines.kept_over.Goals as goal
use Rattle.dur_instances.proofs.lines.kept_over.Goals.{in-Some+in_ok-show-in-Some, in-None}

pub show-requires-clause-known : goal.show-requires-clause-known
show-requires-clause-known c =
    let i = c.loop-place.place-index in
    let p = c.place-item.result in
    let lt : i < length c.args.places.now = search rules in
    let left : left_at c.args.cells.now c.args.longest c.args.now p.change ≡ Some c.in-Some.change.now = sym (c.in-Some.ensures ∙ ap (λ (l : List Cell). left_at l c.args.longest c.args.now p.change) c.sorted.ensures) in
    each-kept (λ (x : Change). is_some (cell_in c.args.cells.now x.sample.key) ≡ true) c.args.places.now i p c.in-Some.change.now c.requires lt c.place-item.is
    (left-some c.args.cells.now c.args.longest c.args.now p.change c.in-Some.change.now left).kept

pub show-requires-clause-spots : goal.show-requires-clause-spots
show-requires-clause-spots c = ap length (c.deref.ensures.value ∙ c.in_ok-spots.ensures) ∙ length-spots c.args.longest c.args.now 0 c.as_slice.result.now ∙ ap length c.as_slice.ensures.value

pub show-requires-clause-few : goal.show-requires-clause-few
show-requires-clause-few c = λ j t at.
    let n = c.loop-place.place-index in
    let few = few-tallies c.args.cells.now c.args.cells.now (seen c.args.cells.now c.args.longest c.args.now c.args.places.now n) j t
    (subst (λ (l : List Tally). slice_get l j ≡ Some t) (c.deref-in-Some-2.ensures.value ∙ c.loop-place.invariant.before) at) in
    let upto = seen-few c.args.cells.now c.args.longest c.args.now c.args.places.now n in
    let lt : n < length c.args.places.now = search rules in
    omega arith

pub count_change-requires-clause-few : goal.count_change-requires-clause-few
count_change-requires-clause-few c = λ j t at.
    let n = c.loop-place.place-index in
    let few = few-tallies c.args.cells.now c.args.cells.now (seen c.args.cells.now c.args.longest c.args.now c.args.places.now n) j t
    (subst (λ (l : List Tally). slice_get l j ≡ Some t) c.loop-place.invariant.before at) in
    let upto = seen-few c.args.cells.now c.args.longest c.args.now c.args.places.now n in
    let lt : n < length c.args.places.now = search rules in
    omega arith

pub loop-place-preserved : goal.loop-place-preserved
loop-place-preserved c =
    let ps = c.args.places.now in
    let i = c.loop-place.place-index in
    let p = c.place-item.result in
    let cells = c.args.cells.now in
    let longest = c.args.longest in
    let now = c.args.now in
    let there = cells_there cells longest now in
    let left = left_of cells longest now (kept_in ps) in
    let rest : List Change = left_of cells longest now (kept_in (drop (i + 1) ps)) in
    let lt : i < length ps = search rules in
    let same = ap (λ (l : List Cell). left_at l longest now p.change) c.sorted.ensures in
    let step : left_of cells longest now (kept_in (drop i ps)) ≡ with_change (left_at cells longest now p.change) rest =
    ap (left_of cells longest now) (kept-at ps i p lt c.place-item.is) ∙ left-with cells longest now p.change (kept_in (drop (i + 1) ps)) in
    let next = seen-next cells longest now ps i p lt c.place-item.is in
    let all = c.loop-place.invariant.all ∙ ap (λ (l : List Change). c.loop-place.list ++ all_shown c.args.depth cells there left (seen cells longest now ps i) l) step in
    elim c.match-left_at.branch [
      | in-Some+in_ok-show-in-Some w ↦
          let x = w.in-Some.change.now in
          let one : left_at cells longest now p.change ≡ Some x = sym (w.in-Some.ensures ∙ same) in
          let so = left-some cells longest now p.change x one in
          let more : seen cells longest now ps i ++ x ∷ [] ≡ seen cells longest now ps (i + 1) = ap (with_end (seen cells longest now ps i)) (sym one) ∙ next in
          let spots = w.deref.ensures.value ∙ c.in_ok-spots.ensures ∙ ap (spots_of longest now 0) c.as_slice.ensures.value in
          let shown = w.in_ok-show-in-Some.ensures longest now left (seen cells longest now ps i) spots (w.deref-in-Some.ensures.value ∙ c.in_ok-all.ensures) (w.deref-in-Some-2.ensures.value ∙ c.loop-place.invariant.before) so.stays in
          record {
            all = all ∙ ap (λ o. c.loop-place.list ++ all_shown c.args.depth cells there left (seen cells longest now ps i) (with_change o rest)) one
                ∙ append-one c.loop-place.list (kept_shown c.args.depth cells there left (seen cells longest now ps i) x) (all_shown c.args.depth cells there left (seen cells longest now ps i ++ x ∷ []) rest)
                ∙ ap (λ (l : List Kept). l ++ all_shown c.args.depth cells there left (seen cells longest now ps i ++ x ∷ []) rest) (sym (w.list-is ∙ shown))
                ∙ ap (λ (l : List Change). c.match-left_at.list ++ all_shown c.args.depth cells there left l rest) more;
            before = ap (λ v. v.items) w.before-is ∙ w.count_change.ensures (seen cells longest now ps i) c.loop-place.invariant.before ∙ ap (tallies_of cells) more;
          }
      | in-None w ↦
          let none : left_at cells longest now p.change ≡ None = sym (w.in-None.ensures ∙ same) in
          let stays : seen cells longest now ps i ≡ seen cells longest now ps (i + 1) = ap (with_end (seen cells longest now ps i)) (sym none) ∙ next in
          record {
            all = all ∙ ap (λ o. c.loop-place.list ++ all_shown c.args.depth cells there left (seen cells longest now ps i) (with_change o rest)) none
                ∙ ap (λ (l : List Kept). l ++ all_shown c.args.depth cells there left (seen cells longest now ps i) rest) (sym w.list-is)
                ∙ ap (λ (l : List Change). c.match-left_at.list ++ all_shown c.args.depth cells there left l rest) stays;
            before = ap (λ v. v.items) w.before-is ∙ c.loop-place.invariant.before ∙ ap (tallies_of cells) stays;
          }
    ]

use Rattle.std.proofs.Common.{◌≡◌, ◌+◌, ◌<◌, ◌++◌, ◌∷◌, [], Bool, true, false, cond, List, length, map, take, get_or, sym, ap, ◌∙◌, arith, rules, append-nil}
use Rattle.std.specs.Prelude.{not, filter}
use Rattle.std.proofs.lemmas.List.Elements.{filter_more}
use Rattle.dur_view.specs.Fates.{is_long}
use Rattle.dur_view.specs.declared.data.Instance.{Instance}
use Rattle.dur_instances.specs.declared.cells.Cell.{Cell}
use Rattle.dur_instances.specs.declared.tallies.Tally.{Tally}
use Rattle.dur_instances.specs.Layout.{left_of, line_shown}
use Rattle.dur_instances.specs.Places.{kept_in}
use Rattle.dur_instances.specs.Listing.{tally_of, line_told}
use Rattle.dur_instances.proofs.Follows.{map-append}
use Rattle.dur_instances.proofs.CellLists.{get-at}
use Rattle.dur_instances.proofs.Tallied.{get-map}
use Rattle.dur_instances.proofs.lines.lines_over.Goals as goal
use Rattle.dur_instances.proofs.lines.lines_over.Goals.{then-not-is_long+in_ok-line_of+in_ok-push, else-not-is_long}

pub loop-i-preserved : goal.loop-i-preserved
loop-i-preserved c =
    let cells = c.args.cells.now in
    let i = c.loop-i.i in
    let x = c.cell-item.result in
    let v = c.as_slice-cell-items.ensures.value in
    let left = left_of cells c.args.longest c.args.now (kept_in c.args.places.now) in
    let f : Cell → Instance = line_shown c.args.topic c.args.depth cells c.args.list.now left in
    let test : Cell → Bool = λ y. not (is_long y.quiet c.args.longest c.args.now) in
    let below : i < length c.as_slice-cell-items.result.now = search rules in
    let same = ap length v in
    let lt : i < length cells = omega arith in
    let is : x ≡ get_or cells i x = c.cell-item.is ∙ ap (λ (l : List Cell). get_or l i x) v in
    let step : map f (filter test (take (i + 1) cells)) ≡ map f (filter test (take i cells)) ++ map f (cond (test x) (x ∷ []) []) =
    ap (map f) (filter_more test cells i x lt ∙ ap (λ (z : Cell). filter test (take i cells) ++ cond (test z) (z ∷ []) []) (sym is)) ∙ map-append f (filter test (take i cells)) (cond (test x) (x ∷ []) []) in
    elim c.if-not-is_long.branch [
      | then-not-is_long+in_ok-line_of+in_ok-push w ↦
          let stays : test x ≡ true = ap not (sym c.is_long.ensures ∙ w.if-not-is_long.true) in
          let tally : w.index.result.now ≡ tally_of cells left x = w.index.ensures ∙ ap (λ (l : List Tally). get_or l i w.index.result.now) c.in_ok-tallies.ensures ∙ get-map (tally_of cells left) cells i x w.index.result.now (get-at cells i x lt is) in
          let line = w.in_ok-line_of.ensures ∙ ap (λ (t : Tally). line_told c.args.topic c.args.depth c.args.list.now x t) tally in
          w.lines-is ∙ w.in_ok-push.ensures.ok ∙ ap (λ (l : Instance). c.loop-i.lines ++ l ∷ []) line ∙ ap (λ (l : List Instance). l ++ f x ∷ []) c.loop-i.invariant
          ∙ ap (λ b. map f (filter test (take i cells)) ++ map f (cond b (x ∷ []) [])) (sym stays) ∙ sym step
      | else-not-is_long w ↦
          let gone : test x ≡ false = ap not (sym c.is_long.ensures ∙ w.if-not-is_long.false) in
          w.lines-is ∙ c.loop-i.invariant ∙ sym (append-nil (map f (filter test (take i cells)))) ∙ ap (λ b. map f (filter test (take i cells)) ++ map f (cond b (x ∷ []) [])) (sym gone) ∙ sym step
    ]

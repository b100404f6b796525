use Rattle.std.proofs.Common.{◌≡◌, ◌<◌, Some, List, length, ap, ◌∙◌, subst, arith, rules}
use Rattle.std.specs.Prelude.{slice_get}
use Rattle.dur_instances.specs.declared.tallies.Tally.{Tally}
use Rattle.dur_instances.specs.Listing.{tallies_of}
use Rattle.dur_instances.proofs.Tallied.{seen, seen-next, seen-few, few-tallies}
use Rattle.dur_instances.proofs.tallies.tallies_over.Goals as goal

pub count_place-requires-clause-few : goal.count_place-requires-clause-few
count_place-requires-clause-few c = λ i t at.
    let n = c.loop-place.place-index in
    let few = few-tallies c.args.cells.now c.args.cells.now (seen c.args.cells.now c.args.longest c.args.now c.args.places.now n) i t
    (subst (λ (l : List Tally). slice_get l i ≡ Some t) c.loop-place.invariant at) in
    let upto = seen-few c.args.cells.now c.args.longest c.args.now c.args.places.now n in
    let lt : n < length c.args.places.now = search rules in
    omega arith

pub loop-place-preserved : goal.loop-place-preserved
loop-place-preserved c =
    let n = c.loop-place.place-index in
    let lt : n < length c.args.places.now = search rules in
    c.count_place.ensures (seen c.args.cells.now c.args.longest c.args.now c.args.places.now n) c.loop-place.invariant
    ∙ ap (tallies_of c.args.cells.now) (seen-next c.args.cells.now c.args.longest c.args.now c.args.places.now n c.place-item.result lt c.place-item.is)

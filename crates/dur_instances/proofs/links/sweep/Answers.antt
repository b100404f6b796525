use Rattle.std.proofs.Common.{◌<◌, length, ap, ◌∙◌, arith}
use Rattle.std.specs.Prelude.{slice_set}
use Rattle.std.proofs.lemmas.Grind.{common_steps}
use Rattle.dur_instances.specs.declared.links.Place.{Place}
use Rattle.dur_instances.specs.Places.{thinned}
use Rattle.dur_instances.proofs.Settled.{settle-step}
use Rattle.dur_instances.proofs.links.sweep.Goals as goal

pub loop-at-preserved : goal.loop-at-preserved
loop-at-preserved c =
    let place = c.index_mut.result.now in
    let at = c.loop-at.at in
    let lt : at < length c.args.places.now.items = grind (arith, common_steps) in
    record {
      items = ap (λ (p : Place). slice_set c.loop-at.places.items at p) c.thin.ensures
          ∙ settle-step (thinned c.args.cells.now c.args.longest c.args.now) c.args.places.now.items c.loop-at.places.items at place place lt c.loop-at.invariant.items c.index_mut.ensures.value;
      len = c.loop-at.invariant.len;
      capacity = c.loop-at.invariant.capacity;
    }

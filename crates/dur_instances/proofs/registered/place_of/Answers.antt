use Rattle.std.proofs.Common.{rules, ◌≡◌, ◌≢◌, ◌+◌, ◌-◌, ◌/◌, ◌<◌, arith}
use Rattle.std.specs.declared.cmp.Ordering.TheVariants.{Greater}
use Rattle.dur_instances.specs.Layout.{reg_cmp}
use Rattle.dur_instances.proofs.CellLists.{get-at}
use Rattle.dur_instances.proofs.RegLists.{not-above, below-middle}
use Rattle.dur_instances.proofs.registered.place_of.Goals as goal

pub loop-low-preserved-then-eq : goal.loop-low-preserved-then-eq
loop-low-preserved-then-eq c =
    let y = c.index-list-middle.result in
    let m = c.loop-low.low + (c.loop-low.high - c.loop-low.low) / 2 in
    let test = c.loop-low-test.true in
    let bound = c.loop-low.invariant.bound in
    let lt : m < c.loop-low.high = omega arith in
    let here = get-at c.args.list.now m y (omega arith) c.index-list-middle.is in
    let high : reg_cmp c.args.one.now y ≡ Greater = search rules in
    record {
      between = omega arith;
      bound = bound;
      before = below-middle c.args.one.now c.args.list.now m y c.requires here high;
      after = c.loop-low.invariant.after;
    }

pub loop-low-preserved : goal.loop-low-preserved
loop-low-preserved c =
    let y = c.index-list-middle.result in
    let m = c.loop-low.low + (c.loop-low.high - c.loop-low.low) / 2 in
    let test = c.loop-low-test.true in
    let bound = c.loop-low.invariant.bound in
    let lt : m < c.loop-low.high = omega arith in
    let here = get-at c.args.list.now m y (omega arith) c.index-list-middle.is in
    let low : reg_cmp c.args.one.now y ≢ Greater = search rules in
    record {
      between = omega arith;
      bound = omega arith;
      before = c.loop-low.invariant.before;
      after = not-above c.args.one.now c.args.list.now m y here low;
    }

use Rattle.std.proofs.Common.{[], ◌++◌, refl, drop, arith}
use Rattle.std.specs.Option.{option_to_list}
use Rattle.rtps_submsg.specs.Subs.{SubSpells}
use Rattle.rtps_message.specs.Facts.{start, after, told}
use Rattle.rtps_message.proofs.Runs.{begins, goes_on, ends_whole, stops}
use Rattle.rtps_message.proofs.laws.end_of.Goals as goal

pub loop-at-init : goal.loop-at-init
loop-at-init c = record { facts = []; context = start c.args.bytes.now; stands = begins [] c.args.bytes.now (start c.args.bytes.now) c.requires }

pub loop-at-preserved : goal.loop-at-preserved
loop-at-preserved c =
    let read = rw c.in-Ok.is at c.read_sub.ensures.ok in
    let fits = rw c.in-Ok.is at c.read_sub.ensures.within in
    let spelt : SubSpells (drop c.loop-at.at c.args.bytes.now) c.in-Ok.field-0-0 c.in-Ok.len = rw (← c.split_at.ensures.back) read in
    let facts = c.loop-at.invariant.facts in
    let context = c.loop-at.invariant.context in
    record {
      facts = facts ++ option_to_list (told [] context c.in-Ok.field-0-0);
      context = after context c.in-Ok.field-0-0;
      stands = goes_on _ _ _ _ _ _ _ _ _ c.in-Ok.field-0-0 _ c.loop-at.invariant.stands spelt (rw (← c.split_at.ensures.back) fits) refl refl refl;
    }

pub returns-in-Err : goal.returns-in-Err
returns-in-Err c =
    let broken = rw c.in-Err.is at c.read_sub.ensures.err in
    let says = stops _ _ _ _ _ c.loop-at.at c.in-Err.fault.at c.in-Err.fault.kind c.loop-at.invariant.stands (omega (arith, c.loop-at-test.true)) (rw (← c.split_at.ensures.back) broken) in
    record { subs = says.subs; rest = says.rest; splits = says.splits; ends = says.ends }

pub returns : goal.returns
returns c =
    let says = ends_whole _ _ _ _ _ c.loop-at.at c.loop-at.invariant.stands (omega (arith, c.loop-at-test.false)) in
    record { subs = says.subs; rest = says.rest; splits = says.splits; ends = says.ends }

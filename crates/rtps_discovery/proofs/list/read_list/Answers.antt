use Rattle.std.proofs.Common.{arith, ap, Some, rules}
use Rattle.rtps_discovery.proofs.Loop.{begins_so, goes_on, leaves_less, ends_so, breaks_so, tells_once}
use Rattle.rtps_discovery.proofs.list.read_list.Goals as goal

pub parameters-smaller : goal.parameters-smaller
parameters-smaller c =
    let read = rw c.in-Some-Some.field-0-is at c.in-Some-Some.ensures.gives in
    leaves_less _ _ _ _ _ _ _ (λ i. omega (arith, c.type_inv.bytes i)) c.parameters.invariant.so read

pub parameters-init : goal.parameters-init
parameters-init c = record {
  so = begins_so c.args.topics.now c.args.little c.args.bytes.now c.nothing-listed.result c.nothing-listed.ensures.value;
  fits = c.nothing-listed.ensures.fits c.args.topics.now;
}

pub parameters-preserved : goal.parameters-preserved
parameters-preserved c =
    let read = rw c.in-Some-Some.field-0-is at c.in-Some-Some.ensures.gives in
    record {
      so = goes_on _ _ _ _ _ _ _ _ (λ i. omega (arith, c.type_inv.bytes i)) c.parameters.invariant.so read c.with-listed.ensures.value;
      fits = c.with-listed.ensures.fits c.args.topics.now c.parameters.invariant.fits (search rules);
    }

pub returns-in-Some-None-clause-some : goal.returns-in-Some-None-clause-some
returns-in-Some-None-clause-some c =
    let read = rw c.in-Some-None.field-0-is at c.in-Some-None.ensures.gives in
    ends_so _ _ _ _ _ (λ i. omega (arith, c.type_inv.bytes i)) c.parameters.invariant.so read

pub returns-in-Some-None-clause-all : goal.returns-in-Some-None-clause-all
returns-in-Some-None-clause-all c l h = ap Some (tells_once _ _ _ _ _ (returns-in-Some-None-clause-some c) h)

pub returns-in-None-clause-all : goal.returns-in-None-clause-all
returns-in-None-clause-all c l h = absurd (breaks_so _ _ _ _ _ c.parameters.invariant.so c.in-None.ensures.gives l h)

use Rattle.std.proofs.Common.{arith, refl}
use Rattle.rtps_params.proofs.Loop.{goes_on, leaves_less, ends_so, breaks_so, only_list, no_fault, no_list, only_fault, spells_within, breaks_within}
use Rattle.rtps_params.proofs.reading.read_list.Goals as goal

pub parameters-smaller : goal.parameters-smaller
parameters-smaller c =
    let read = rw c.in-Ok-Some.field-0-is at c.in-Ok-Some.ensures in
    leaves_less _ _ _ _ _ _ (λ i. omega (arith, c.type_inv.bytes i)) c.parameters.invariant read

pub parameters-preserved : goal.parameters-preserved
parameters-preserved c =
    let read = rw c.in-Ok-Some.field-0-is at c.in-Ok-Some.ensures in
    goes_on _ _ _ _ _ _ _ (λ i. omega (arith, c.type_inv.bytes i)) c.parameters.invariant read c.with-inline.ensures

pub returns-in-Ok-None-clause-ok : goal.returns-in-Ok-None-clause-ok
returns-in-Ok-None-clause-ok c =
    let read = rw c.in-Ok-None.field-0-is at c.in-Ok-None.ensures in
    ends_so _ _ _ _ _ (λ i. omega (arith, c.type_inv.bytes i)) c.parameters.invariant read refl

pub returns-in-Ok-None-clause-spelt : goal.returns-in-Ok-None-clause-spelt
returns-in-Ok-None-clause-spelt c = only_list _ _ _ _ (returns-in-Ok-None-clause-ok c)

pub returns-in-Ok-None-clause-broken : goal.returns-in-Ok-None-clause-broken
returns-in-Ok-None-clause-broken c = no_fault _ _ _ _ (returns-in-Ok-None-clause-ok c)

pub returns-in-Err-clause-err : goal.returns-in-Err-clause-err
returns-in-Err-clause-err c = breaks_so _ _ _ _ _ _ (λ i. omega (arith, c.type_inv.bytes i)) c.parameters.invariant c.in-Err.ensures refl

pub returns-in-Err-clause-spelt : goal.returns-in-Err-clause-spelt
returns-in-Err-clause-spelt c = no_list _ _ _ _ (returns-in-Err-clause-err c)

pub returns-in-Err-clause-broken : goal.returns-in-Err-clause-broken
returns-in-Err-clause-broken c = only_fault _ _ _ _ (returns-in-Err-clause-err c)

pub returns-in-Ok-None-clause-within : goal.returns-in-Ok-None-clause-within
returns-in-Ok-None-clause-within c = spells_within _ _ _ _ (returns-in-Ok-None-clause-ok c)

pub returns-in-Err-clause-place : goal.returns-in-Err-clause-place
returns-in-Err-clause-place c = breaks_within _ _ _ _ (returns-in-Err-clause-err c)

use Rattle.std.proofs.Common.{◌∙◌, length, ap, sym, arith}
use Rattle.rtps_frag.specs.Asking.{first_from}
use Rattle.rtps_frag.proofs.Marks.{length-marks_in, first_marked, none_missing}
use Rattle.rtps_frag.proofs.arrived.Arrived.first_missing.Goals as goal

pub returns-in-Some-clause-value : goal.returns-in-Some-clause-value
returns-in-Some-clause-value c =
    let first = rw (c.as_slice.ensures.value) at c.in-Some.ensures.some in
    sym (first_marked c.self.inside.words.items c.self.inside.count c.in-Some.at first (omega (arith, c.if-at-self.true))) ∙ ap (first_from 0) c.self.view_is

pub returns-in-Some-clause-within : goal.returns-in-Some-clause-within
returns-in-Some-clause-within c = omega (arith, c.if-at-self.true, length-marks_in c.self.inside.words.items c.self.inside.count, ap length c.self.view_is)

pub returns-in_default-clause-value : goal.returns-in_default-clause-value
returns-in_default-clause-value c =
    let first = rw (c.as_slice.ensures.value) at c.in-Some.ensures.some in
    sym (none_missing c.self.inside.words.items c.self.inside.count (λ k early. first.least k (omega (arith, early, c.if-at-self.false)))) ∙ ap (first_from 0) c.self.view_is

pub returns-in_default-2-clause-value : goal.returns-in_default-2-clause-value
returns-in_default-2-clause-value c =
    let all = rw (c.as_slice.ensures.value) at c.in_default.ensures.none in
    sym (none_missing c.self.inside.words.items c.self.inside.count (λ k early. all k (omega (arith, early, c.self.invariant.words_are, c.self.invariant.within)))) ∙ ap (first_from 0) c.self.view_is

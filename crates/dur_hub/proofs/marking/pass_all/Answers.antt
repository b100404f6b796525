use Rattle.std.proofs.Common.{◌≡◌, arith, ◌+◌}
use Rattle.dur_view.specs.Stored.{stored}
use Rattle.dur_hub.specs.Queues.{passed_by}
use Rattle.dur_hub.proofs.Passing.{moved}
use Rattle.dur_hub.proofs.marking.pass_all.Goals as goal

pub loop-init : goal.loop-init
loop-init c = λ plan h t d ws q le apart ix fit. moved _ _ plan h t d _ ws (omega arith) (q, fit)

pub loop-preserved : goal.loop-preserved
loop-preserved c = λ plan h t d ws q le apart ix fit.
    let a = c.loop.invariant plan h t d ws q le apart ix fit in
    let b = c.pop.ensures t (d + c.loop.counter) (stored h) a.0 (omega (arith, le)) in
    let same : c.in-Some.passed ≡ passed_by b.0 = (let is = c.in-Some.is in let or = b.2 in cc) in
    moved _ _ plan h t _ _ ws (omega arith)
    (b.3, c.pass_one.ensures plan h (d + c.loop.counter) b.0 ws b.1 same apart ix a.1)

pub returns-in-None : goal.returns-in-None
returns-in-None c = λ plan h t d ws q le apart ix fit.
    let a = c.loop.invariant plan h t d ws q le apart ix fit in
    let b = c.pop.ensures t (d + c.loop.counter) (stored h) a.0 (omega (arith, le)) in
    absurd (let is = c.in-None.is in let or = b.2 in cc)

pub returns : goal.returns
returns c =
    λ plan h t d ws q le apart ix fit. moved _ _ plan h t _ _ ws (omega arith) (c.loop.invariant plan h t d ws q le apart ix fit)

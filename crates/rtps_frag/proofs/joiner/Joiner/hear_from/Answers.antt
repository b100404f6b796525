use Rattle.std.proofs.Common.{arith}
use Rattle.rtps_frag.proofs.Good.{good_further}
use Rattle.rtps_frag.proofs.Runs.{begins, goes_on, ends_whole, stops}
use Rattle.rtps_frag.proofs.joiner.Joiner.hear_from.Goals as goal

pub loop-at-init : goal.loop-at-init
loop-at-init c = rw (c.new-facts.ensures, c.new-asks.ensures) (record { stands = begins c.args.own c.args.datagram.now (record { context = c.args.start; samples = c.args.self.now }) c.requires; good = tt })

pub loop-at-preserved : goal.loop-at-preserved
loop-at-preserved c =
    let told = rw c.in-Ok.is at c.in_ok-told.ensures.ok in
    let fine = rw c.in-Ok.is at c.in_ok-told.ensures.good in
    record {
      stands = goes_on _ _ _ _ _ _ _ _ _ c.loop-at.at c.in-Ok.told.len c.in-Ok.told.fact c.in-Ok.told.ask c.loop-at.invariant.stands told c.in_ok-keep_fact-in-Ok.ensures c.in_ok-keep_ask-in-Ok.ensures;
      good = good_further c.loop-at.facts _ c.in-Ok.told.fact c.loop-at.invariant.good fine c.in_ok-keep_fact-in-Ok.ensures;
    }

pub overflow_add-end : goal.overflow_add-end
overflow_add-end c = let place = rw c.in-Err.is at c.in_ok-told.ensures.place in omega (arith, place, c.in_ok-told.ensures.small, c.loop-at.invariant.stands.within)

pub returns-in-Err-clause-says : goal.returns-in-Err-clause-says
returns-in-Err-clause-says c =
    let broken = rw c.in-Err.is at c.in_ok-told.ensures.err in
    stops _ _ _ _ _ _ c.loop-at.at c.in-Err.fault.at c.in-Err.fault.kind _ c.loop-at.invariant.stands (omega (arith, c.loop-at-test.true, c.len.ensures)) broken.0 broken.1

pub returns-clause-says : goal.returns-clause-says
returns-clause-says c = ends_whole _ _ _ _ _ _ c.loop-at.at c.loop-at.invariant.stands (omega (arith, c.loop-at-test.false, c.len.ensures))

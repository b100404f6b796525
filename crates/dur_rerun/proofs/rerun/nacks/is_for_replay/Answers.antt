use Rattle.std.proofs.Common.{arith}
use Rattle.dur_rerun.proofs.ReplayPlaces.{got_within}
use Rattle.dur_rerun.proofs.rerun.nacks.is_for_replay.Goals as goal

pub returns-clause-none : goal.returns-clause-none
returns-clause-none c is k f =
    let within = got_within c.args.plan.now.readers k f.line f.stands in
    c.loop-at.invariant k (omega (arith, within, c.loop-at-test.false, c.len-at-end.ensures, c.loop-at.auto.at-end)) f

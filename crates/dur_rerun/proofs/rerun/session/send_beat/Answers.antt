use Rattle.std.proofs.Common.{rules}
use Rattle.dur_rerun.proofs.SendsOut.{goes_once, goes_nowhere, no_beat, one_beat}
use Rattle.dur_rerun.proofs.rerun.session.send_beat.Goals as goal

pub returns-then-not-asked-clause-goes : goal.returns-then-not-asked-clause-goes
returns-then-not-asked-clause-goes g c =
    goes_nowhere _ _ _ _ _ _ _ _ (no_beat c.args.asked c.args.session.now (search rules))

pub returns-clause-goes : goal.returns-clause-goes
returns-clause-goes g c =
    let beat = one_beat c.args.asked c.args.session.now c.beat-count.new.self _ (search rules) c.beat-count.ensures.beat c.beat-count.ensures.after in
    goes_once _ _ _ _ _ _ _ _ _ _ _ beat beat (λ told. c.send.ensures.says told)

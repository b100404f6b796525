use Rattle.std.proofs.Common.{refl}
use Rattle.dur_rerun.proofs.ReplayPlaces.{got}
use Rattle.dur_rerun.proofs.SendsOut.{goes_as}
use Rattle.dur_rerun.proofs.rerun.replays.Replays.answer.Goals as goal

pub returns-clause-goes : goal.returns-clause-goes
returns-clause-goes g c =
    let there = got c.args.self.now.begun.items c.args.place c.index_mut-replay.result.now c.requires.place c.index_mut-replay.ensures.value in
    goes_as _ _ _ _ _ _ _ _ _ _ _ _ c.answer.ensures.goes
    (λ sent replies. record { r = c.index_mut-replay.result.now; stands = there; t = c.answer.new.session; replies = replies; goes_on = refl })
    (λ sent begun. record { r = c.index_mut-replay.result.now; stands = there; begins = begun })

use Rattle.std.proofs.Common.{ap, [], ◌∷◌, List, ℕ}
use Rattle.dur_rerun.proofs.SendsOut.{goes_once, ack_written}
use Rattle.dur_rerun.proofs.rerun.reply.send_ack.Goals as goal

pub returns-clause-goes : goal.returns-clause-goes
returns-clause-goes g c =
    let a = c.args.ack.now in
    let text = ack_written c.args.own a.reader c.of-from.result a.writer a.set a.is_final a.count _ _ _ c.prefix_size.ensures c.of-from.ensures c.write_acknack-count.ensures.written in
    let is = ap (λ (bytes : List ℕ). bytes ∷ []) text in
    goes_once _ _ _ _ _ _ _ _ _ _ _ is is (λ told. c.send.ensures.says told)

use Rattle.rtps_submsg.proofs.reading.read_body.Goals as goal

pub returns-in-Err-clause-err : goal.returns-in-Err-clause-err
returns-in-Err-clause-err c = rw (c.if-id-eq-ID_DATA.true, ← c.has.ensures) c.in-Err.ensures.err

use Rattle.rel_writer.specs.LateReaders.{drain}
use Rattle.rel_writer.proofs.Steps.{took_one, took_none}
use Rattle.rel_writer.proofs.late.LateReader.take_one.Goals as goal

pub returns-in-Sample-clause-handled : goal.returns-in-Sample-clause-handled
returns-in-Sample-clause-handled c = λ l st.
    let p = c.pass.ensures.handled l st in
    took_one c.args.self.now c.take.new.self l p.times st
    (c.take.ensures.handled (drain p.times l) p.stands)
    (c.take.ensures.ready (drain p.times l) p.stands)

pub returns-in_default-clause-handled : goal.returns-in_default-clause-handled
returns-in_default-clause-handled c = λ l st.
    let p = c.pass.ensures.handled l st in
    took_none c.args.self.now c.pass.new.self l st p
    (λ has. c.in_default.not-Sample
    ((c.ready.ensures.sample (drain p.times l).story p.stands.fits).1 has))

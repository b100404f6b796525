use Rattle.std.proofs.Common.{refl, arith, ◌≤◌}
use Rattle.rel_reader.specs.Stories.{next}
use Rattle.rel_writer.proofs.Draining.{skipped}
use Rattle.rel_writer.proofs.late.LateReader.pass.Goals as goal

pub returns-in-Skip-clause-handled : goal.returns-in-Skip-clause-handled
returns-in-Skip-clause-handled c = λ l st.
    let skip = c.ready.ensures.skip l.story st.fits c.in-Skip.field-0 c.in-Skip.field-1
    c.in-Skip.is in
    let low : next l.story ≤ next l.story = omega arith in
    let h = c.handled-none.ensures.skip l.story st.fits
    (skip.1.each (next l.story) low skip.1.some) in
    skipped c.args.self.now _ l h.1.0 st h.1.1.0 h.1.1.1 refl refl refl refl refl refl refl

use Rattle.std.proofs.Common.{◌≡◌, refl}
use Rattle.std.specs.Prelude.{Some, None}
use Rattle.rel_writer.proofs.Draining.{is_there, took_stands}
use Rattle.rel_writer.proofs.late.LateReader.take.Goals as goal

pub returns-in-Some-clause-handled : goal.returns-in-Some-clause-handled
returns-in-Some-clause-handled c = λ l st.
    let there = is_there c.args.self.now.proxy l.story c.requires.has st.fits in
    let told = c.in-Some.ensures.sample l.story there.0 st.fits there.1 in
    took_stands _ _ l _ _ st there.1 told.0 told.1 refl refl refl refl refl refl c.add.ensures.held

pub returns-in-None-clause-handled : goal.returns-in-None-clause-handled
returns-in-None-clause-handled c = λ l st.
    let there = is_there c.args.self.now.proxy l.story c.requires.has st.fits in
    absurd (let e : None ≡ Some there.0 =
    (c.in-None.ensures.sample l.story there.0 st.fits there.1).0 in cc)

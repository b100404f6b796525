use Rattle.std.proofs.Common.{◌∙◌, ◌+◌, ◌%◌, ◌^◌, ◌++◌, ap}
use Rattle.std.specs.Prelude.{unwrap_or}
use Rattle.rtps_message.specs.Facts.{everybody}
use Rattle.rel_writer.proofs.Asking.{nack_is}
use Rattle.rel_writer.proofs.Picking.{written}
use Rattle.rel_writer.proofs.late.LateReader.nack.Goals as goal

pub returns-clause-nack : goal.returns-clause-nack
returns-clause-nack c = λ l st.
    nack_is l _ _ c.acknack-set.result _ _ _ _ _ _ _ st.reader
    (c.of-to.ensures
    ∙ ap (λ p. p ++ c.args.self.now.writer)
    (c.unwrap_or.ensures ∙ ap (λ o. unwrap_or o everybody) st.kept)
    ∙ ap (λ w. unwrap_or l.kept everybody ++ w) st.writer)
    (c.done.ensures l.handled st.taken) (ap (λ n. (n + 1) % 2 ^ 32) st.nacks)
    c.form_of.ensures c.acknack-set.ensures.base (c.next-base.ensures ∙ st.fits.next) st.last
    (c.acknack-set.ensures.missing l.story st.fits) c.write_acknack.ensures.written
    c.write_acknack.ensures.back

pub returns-clause-writes : goal.returns-clause-writes
returns-clause-writes c = written _ _ _ _ _ c.write_acknack.ensures.written

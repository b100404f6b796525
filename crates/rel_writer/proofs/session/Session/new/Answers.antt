use Rattle.std.proofs.Common.{sym, subst, ap, arith, List}
use Rattle.dur_base.specs.declared.sample.Sample.{Sample}
use Rattle.rel_writer.specs.Sessions.{IsSending, opened}
use Rattle.rel_writer.proofs.SentAgain.{all_sent, each_sent, length_sent}
use Rattle.rel_writer.proofs.session.Session.new.Goals as goal

pub invariant_of-result : goal.invariant_of-result
invariant_of-result c =
    let cs = c.args.snapshot.changes in
    let is = all_sent cs c.into_vec-changes.result.items c.as_mut_slice.result.now
    c.mark_all.new.changes c.into_vec-changes.result.len c.into_vec-changes.ensures
    c.as_mut_slice.ensures.value c.into_vec-changes.result.ok.0 c.mark_all.ensures in
    subst (λ (t : List Sample). IsSending (opened c.args.ids t)) (sym is) (record {
      each = each_sent c.args.ids.keyed cs c.requires;
      few = omega (arith, length_sent cs, c.requires.few);
    })

pub returns : goal.returns
returns c =
    let cs = c.args.snapshot.changes in
    ap (opened c.args.ids)
    (all_sent cs c.into_vec-changes.result.items c.as_mut_slice.result.now c.mark_all.new.changes
    c.into_vec-changes.result.len c.into_vec-changes.ensures c.as_mut_slice.ensures.value
    c.into_vec-changes.result.ok.0 c.mark_all.ensures)

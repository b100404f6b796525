use Rattle.std.proofs.Common.{◌∙◌, refl, ap, subst, get_or}
use Rattle.dur_view.specs.History.{Start}
use Rattle.rel_reader.specs.Stories.{Begin}
use Rattle.rel_reader.specs.Windows.{Fits}
use Rattle.dur_hub.proofs.Opens.{first_line_fits, topic_at}
use Rattle.dur_hub.proofs.line.line_of.Goals as goal

pub returns : goal.returns
returns c = λ v keeps stand.
    let n = c.next-next.ensures (Start v) keeps in
    let topic =
    topic_at c.args.plan.now c.args.writer.now.topic c.index-as_slice-writer.result
    c.requires.place
    (c.index-as_slice-writer.is ∙ ap (λ l. get_or l c.args.writer.now.topic c.index-as_slice-writer.result) c.as_slice.ensures) in
    first_line_fits c.args.plan.now v c.args.writer.now c.index-as_slice-writer.result _ stand topic
    refl refl c.reader_id.ensures refl c.is_persistent.ensures
    (subst (λ k. Fits c.in_ok-proxy.proxy (Begin k)) n c.in_ok-proxy.ensures) refl refl refl n

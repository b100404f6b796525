use Rattle.std.proofs.Common.{◌+◌, ◌∙◌, arith, subst, sym, ap, take, map, length, get_or}
use Rattle.dur_view.specs.History.{Start}
use Rattle.dur_hub.specs.Runs.{first_writer}
use Rattle.dur_hub.specs.Openings.{WriterStands}
use Rattle.dur_hub.specs.Lines.{LinesFit}
use Rattle.dur_hub.proofs.Opens.{lines_more, all_at}
use Rattle.dur_hub.proofs.line.lines_of.Goals as goal

pub loop-writer-preserved : goal.loop-writer-preserved
loop-writer-preserved c = λ v keeps stand.
    let writers = c.as_slice-writer-items.ensures in
    let at =
    c.writer-item.is
    ∙ ap (λ l. get_or l c.loop-writer.writer-index c.writer-item.result) writers in
    let one =
    c.in_ok-line.ensures v keeps
    (all_at (WriterStands c.args.plan.now v) c.args.plan.now.writers c.loop-writer.writer-index c.writer-item.result stand (omega (arith, ap length writers)) at) in
    subst
    (λ k. LinesFit c.args.plan.now (Start v) 0 k (map (first_writer v) (take (c.loop-writer.writer-index + 1) c.args.plan.now.writers)))
    (sym c.in_ok-push.ensures.items)
    (lines_more c.args.plan.now v c.loop-writer.lines.items c.args.plan.now.writers c.loop-writer.writer-index c.in_ok-line.line c.writer-item.result (c.loop-writer.invariant v keeps stand) one (omega (arith, ap length writers)) at)

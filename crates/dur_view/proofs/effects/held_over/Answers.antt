use Rattle.std.proofs.Common.{List, ap, ◌∙◌, sym}
use Rattle.dur_view.specs.declared.data.Held.{Held}
use Rattle.dur_view.specs.History.{Start, held, held_by}
use Rattle.dur_view.specs.Extend.{extend-more}
use Rattle.dur_view.proofs.effects.held_over.Goals as goal

pub loop-entry-preserved : goal.loop-entry-preserved
loop-entry-preserved c =
    let more = extend-more (Start c.args.start.now) c.args.entries.now c.loop-entry.entry-index c.entry-item.result c.loop-entry-test.true c.entry-item.is in
    c.in_ok-members-2.ensures ∙ ap (λ (l : List Held). held_by c.entry-item.result c.args.writer l) c.loop-entry.invariant ∙ sym (ap (λ h. held h c.args.writer) more)

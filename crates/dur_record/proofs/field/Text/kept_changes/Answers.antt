use Rattle.std.proofs.Common.{◌∙◌, sym, ap, arith}
use Rattle.std.proofs.Math.ListN.{length-set}
use Rattle.dur_view.specs.declared.data.Kept.{Kept}
use Rattle.dur_record.proofs.Items.{one_more}
use Rattle.dur_record.proofs.Marks.{counted_more, numbered_more}
use Rattle.dur_record.proofs.field.Text.kept_changes.Goals as goal

pub loop-index-preserved : goal.loop-index-preserved
loop-index-preserved c = rw c.in_ok-push.ensures.ok (record {
  reads = c.loop-index.invariant.reads ∙ one_more _ _ _ _ _ _ _ c.loop-index-test.true (rw c.as_slice.ensures at c.in_ok-change.ensures.reads);
  counted = rw c.note_ordinal.ensures (counted_more c.loop-index.ordinals.items c.loop-index.kept c.in_ok-change.change _ _ c.loop-index.invariant.counted (omega (arith, c.in_ok-change.ensures.within, c.loop-index.invariant.count)) (sym (ap (λ (w : Kept). w.instance) c.change.view_is)) (sym (ap (λ (w : Kept). w.ordinal) c.change.view_is)));
  count = rw c.note_ordinal.ensures (length-set _ _ _ ∙ c.loop-index.invariant.count);
  numbered = numbered_more c.loop-index.numbers c.note_number.new.numbers c.loop-index.kept c.in_ok-change.change _ _ c.loop-index.invariant.numbered (ap (λ (w : Kept). w.writer) c.change.view_is) (c.get.ensures.value ∙ ap (λ (w : Kept). w.number) c.change.view_is) c.in_ok-note_number.ensures;
})

use Rattle.std.proofs.Common.{◌∙◌, refl, ap, arith, length-append, [], ◌∷◌}
use Rattle.std.proofs.lemmas.Grind.{common_steps}
use Rattle.std.proofs.lemmas.Result.{err_from_is_err_and}
use Rattle.dur_view.specs.declared.data.KeptWriter.{KeptWriter}
use Rattle.dur_record.proofs.Items.{one_more, stops}
use Rattle.dur_record.proofs.Places.{one_more_place}
use Rattle.dur_record.proofs.field.Text.writers.Goals as goal

pub loop-place-init : goal.loop-place-init
loop-place-init c = record {
  reads = grind (arith, common_steps);
  indexed = rw c.new-writers.ensures c.requires;
  placed = rw c.new-writers.ensures refl;
}

pub returns-in_err-writer-clause-reads : goal.returns-in_err-writer-clause-reads
returns-in_err-writer-clause-reads c =
    let p = err_from_is_err_and c.from_residual.result c.from_residual.ensures.1 in
    rw (p.1, p.2) (λ broken. c.loop-place.invariant.reads ∙ stops _ _ _ _ _ _ c.loop-place-test.true (c.in_err-writer.ensures.reads _ c.loop-place.invariant.indexed broken))

pub loop-place-preserved : goal.loop-place-preserved
loop-place-preserved c = rw c.in_ok-push.ensures.ok (record {
  reads = c.loop-place.invariant.reads ∙ one_more _ _ _ _ _ _ _ c.loop-place-test.true (c.in_ok-writer.ensures.reads _ c.loop-place.invariant.indexed);
  indexed = one_more_place c.loop-place.guids c.note.new.guids _ _ _ _ c.loop-place.invariant.indexed c.in_ok-writer.ensures.new c.loop-place.invariant.placed (ap (λ (w : KeptWriter). w.guid) c.writer-in-loop-place.view_is) c.in_ok-note.ensures;
  placed = omega (arith, length-append c.loop-place.writers (c.in_ok-writer.writer ∷ []), c.loop-place.invariant.placed);
})

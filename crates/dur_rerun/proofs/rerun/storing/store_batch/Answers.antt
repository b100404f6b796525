use Rattle.std.proofs.Common.{ℕ, sym, subst}
use Rattle.dur_rerun.specs.Rerun.Stores.{HandsOut, next_batch}
use Rattle.dur_hub.specs.Legal.{run_after}
use Rattle.dur_rerun.proofs.Batches.{marked}
use Rattle.dur_rerun.proofs.rerun.storing.store_batch.Goals as goal

pub returns-in-Ok-clause-passes : goal.returns-in-Ok-clause-passes
returns-in-Ok-clause-passes g c = λ begun log settled.
    let es = next_batch c.args.journal.appended (run_after begun log) in
    marked begun log es c.args.hub.now c.store_next.new.hub c.mark.new.self c.in-Ok.journal c.args.journal.position c.upto.result settled
    (subst (λ (u : ℕ). HandsOut begun log es c.store_next.new.hub c.in-Ok.journal u) (sym c.upto.ensures) (c.in-Ok.ensures.hands begun log settled))
    c.mark.ensures

use Rattle.std.proofs.Common.{rules, ℕ, subst, take, [], ◌∷◌}
use Rattle.dur_rerun.specs.Rerun.Steps.{IsDataIf}
use Rattle.dur_rerun.proofs.SendsOut.{goes_once, goes_nowhere, no_data, one_data}
use Rattle.dur_rerun.proofs.rerun.session.send_data.Goals as goal

pub returns-then-not-asked-clause-goes : goal.returns-then-not-asked-clause-goes
returns-then-not-asked-clause-goes g c =
    goes_nowhere _ _ _ _ _ _ _ _ (no_data c.args.asked c.args.session.now c.args.number (search rules))

pub returns-clause-goes : goal.returns-clause-goes
returns-clause-goes g c =
    let some : IsDataIf c.args.asked c.args.session.now c.at.result (take c.data-count.result c.data-count.new.out ∷ []) =
    one_data c.args.asked c.args.session.now c.at.result _ (search rules) c.data-count.ensures.data in
    let one = subst (λ (k : ℕ). IsDataIf c.args.asked c.args.session.now k (take c.data-count.result c.data-count.new.out ∷ [])) c.at.ensures some in
    goes_once _ _ _ _ _ _ _ _ _ _ _ one one (λ told. c.send.ensures.says told)

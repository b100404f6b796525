use Rattle.std.proofs.Common.{List, ℕ, ◌++◌, length, ap, sym, subst, ◌∙◌}
use Rattle.dur_qos.specs.Text.{PlanText}
use Rattle.dur_qos.specs.Written.{plan_text}
use Rattle.dur_qos.proofs.PlanBack.{plan_back}
use Rattle.dur_qos.proofs.writing.write_plan.Goals as goal

pub returns-clause-back : goal.returns-clause-back
returns-clause-back c =
    let text = plan_text c.args.plan.now in
    let written = c.in_ok-put_plan.ensures.text ∙ ap (λ (t : List ℕ). t ++ text) c.new-out.ensures in
    subst (λ (t : List ℕ). PlanText t c.args.plan.now (length t)) (sym written) (plan_back c.args.plan.now c.requires c.in_ok-put_plan.ensures.typed)

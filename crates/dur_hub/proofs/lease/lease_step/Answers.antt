use Rattle.dur_hub.proofs.Losing.{step_begun, step_first}
use Rattle.dur_hub.proofs.lease.lease_step.Goals as goal

pub returns-then-begun : goal.returns-then-begun
returns-then-begun c = step_begun _ _ _ _ _ _ _ _ c.if-begun.true c.lose_overdue.ensures

pub returns : goal.returns
returns c = step_first _ _ _ _ _ _ _ _ _ c.if-begun.false c.lose_left.ensures c.hear_lines.ensures

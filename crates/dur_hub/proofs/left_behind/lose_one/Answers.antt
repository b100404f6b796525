use Rattle.std.proofs.Common.{ap}
use Rattle.dur_hub.proofs.left_behind.lose_one.Goals as goal

pub returns-in-Ok-clause-lost : goal.returns-in-Ok-clause-lost
returns-in-Ok-clause-lost c =
    λ done h t d at is follows. (c.in-Ok.ensures.ok h t d at (ap (λ x. x.stored) is) follows).0

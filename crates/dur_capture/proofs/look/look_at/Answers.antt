use Rattle.std.proofs.Common.{arith}
use Rattle.dur_capture.proofs.Records.{offers}
use Rattle.dur_capture.proofs.look.look_at.Goals as goal

pub returns-in-Whole : goal.returns-in-Whole
returns-in-Whole c = offers _ _ _ (λ i. omega (arith, c.type_inv.left i)) c.requires c.within.ensures c.in-Whole.ensures

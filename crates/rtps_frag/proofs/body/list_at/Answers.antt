use Rattle.std.proofs.Common.{arith}
use Rattle.rtps_frag.proofs.Good.{nothing_inside, listed_inside}
use Rattle.rtps_frag.proofs.body.list_at.Goals as goal

pub returns-then-not-is_there-clause-inside : goal.returns-then-not-is_there-clause-inside
returns-then-not-is_there-clause-inside c = nothing_inside c.nothing.result c.nothing.ensures

pub returns-clause-inside : goal.returns-clause-inside
returns-clause-inside c = listed_inside c.args.behind.now c.args.little c.read_list.result (λ i. omega (arith, c.type_inv.behind i)) c.read_list.ensures.ok

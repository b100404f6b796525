use Rattle.std.proofs.Common.{length, ap, arith}
use Rattle.dur_store.specs.Members.{MembersNow}
use Rattle.dur_store.proofs.HeldLists.{length-members}
use Rattle.dur_store.proofs.members.Members.len.Goals as goal

pub returns-clause-count : goal.returns-clause-count
returns-clause-count c =
    let a = c.self.inside.samples.ok.0 in
    let b = c.self.inside.taken.ok.0 in
    let i = c.self.invariant in
    let v = ap (λ (m : MembersNow). length m.items) c.self.view_is in
    let n = length-members c.self.inside.samples.items c.self.inside.taken.items (omega arith) in
    omega (arith, c.len.ensures)

pub returns-clause-bound : goal.returns-clause-bound
returns-clause-bound c =
    let a = c.self.inside.samples.ok.1 in
    let b = c.self.inside.samples.small in
    omega (arith, c.len.ensures)

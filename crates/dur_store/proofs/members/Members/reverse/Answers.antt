use Rattle.std.proofs.Common.{ap, arith}
use Rattle.dur_store.specs.Members.{MembersNow}
use Rattle.dur_store.proofs.HeldLists.{members-reversed}
use Rattle.dur_store.proofs.members.Members.reverse.Goals as goal

pub returns-clause-items : goal.returns-clause-items
returns-clause-items c =
    let a = c.self.inside.samples.ok.0 in
    let b = c.self.inside.taken.ok.0 in
    let i = c.self.invariant in
    members-reversed c.self.inside.samples.items c.reverse.new.self.items c.self.inside.taken.items c.reverse-2.new.self.items c.args.self.now.items
    (omega arith) c.reverse.ensures.items c.reverse-2.ensures.items (ap (λ (m : MembersNow). m.items) c.self.view_is)

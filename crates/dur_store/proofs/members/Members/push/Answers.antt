use Rattle.std.proofs.Common.{ap, arith}
use Rattle.dur_store.specs.Members.{MembersNow}
use Rattle.dur_store.proofs.HeldLists.{members-push}
use Rattle.dur_store.proofs.members.Members.push.Goals as goal

pub returns-clause-items : goal.returns-clause-items
returns-clause-items c =
    let a = c.self.inside.samples.ok.0 in
    let b = c.self.inside.taken.ok.0 in
    let i = c.self.invariant in
    members-push c.self.inside.samples.items c.push_within.new.items.items c.self.inside.taken.items c.push_within-2.new.items.items c.args.member.sample record { number = c.args.member.number; moment = c.args.member.moment } c.args.self.now.items
    (omega arith) c.push_within.ensures.items c.push_within-2.ensures.items (ap (λ (m : MembersNow). m.items) c.self.view_is)

use Rattle.std.proofs.Common.{List, sym, ap, ◌∙◌, subst, arith}
use Rattle.dur_base.specs.declared.sample.Sample.{Sample}
use Rattle.dur_instances.specs.Would.{TakeEffect}
use Rattle.dur_store.specs.Members.{MembersNow}
use Rattle.dur_store.proofs.HeldLists.{closed-hold, closed-drop, passed-now}
use Rattle.dur_store.proofs.members.Members.would.Goals as goal

pub returns-in-Close-Now-clause-limit : goal.returns-in-Close-Now-clause-limit
returns-in-Close-Now-clause-limit c =
    let a = c.self.inside.samples.ok.0 in
    let b = c.self.inside.taken.ok.0 in
    let i = c.self.invariant in
    passed-now c.would_with.result c.args.topic.now c.args.moment c.args.effect.now.before c.in-Close-Now.field-0-0 c.args.effect.now.now c.args.sample c.self.inside.samples.items c.self.inside.taken.items c.args.self.now.items
    c.in-Close-Now.is-0 c.in-Close-Now.is-1 (omega arith) (ap (λ (m : MembersNow). m.items) c.self.view_is) c.would_with.ensures.limit

pub returns-in-Close-Hold-clause-limit : goal.returns-in-Close-Hold-clause-limit
returns-in-Close-Hold-clause-limit c = λ whole p es st take.
    let a = c.self.inside.samples.ok.0 in
    let b = c.self.inside.taken.ok.0 in
    let i = c.self.invariant in
    c.would.ensures p es st
    (subst (λ (l : List Sample). TakeEffect c.args.moment l es)
    (sym
    (c.as_slice.ensures.value
    ∙ closed-hold c.args.effect.now.before c.in-Close-Hold.field-0-0 c.args.effect.now.now c.args.sample c.self.inside.samples.items c.self.inside.taken.items c.args.self.now.items
    c.in-Close-Hold.is-0 c.in-Close-Hold.is-1 (omega arith) (ap (λ (m : MembersNow). m.items) c.self.view_is) whole))
    take)

pub returns-in-Close-Drop-clause-limit : goal.returns-in-Close-Drop-clause-limit
returns-in-Close-Drop-clause-limit c = λ whole p es st take.
    let a = c.self.inside.samples.ok.0 in
    let b = c.self.inside.taken.ok.0 in
    let i = c.self.invariant in
    c.would-in-Close-Drop.ensures p es st
    (subst (λ (l : List Sample). TakeEffect c.args.moment l es)
    (sym
    (c.as_slice-in-Close-Drop.ensures.value
    ∙ closed-drop c.args.effect.now.before c.in-Close-Drop.field-0-0 c.args.effect.now.now c.args.sample c.self.inside.samples.items c.self.inside.taken.items c.args.self.now.items
    c.in-Close-Drop.is-0 c.in-Close-Drop.is-1 (omega arith) (ap (λ (m : MembersNow). m.items) c.self.view_is) whole))
    take)

use Rattle.std.proofs.Common.{Option, ◌++◌, sym, ap, ◌∙◌, arith}
use Rattle.std.specs.Prelude.{option_to_list}
use Rattle.dur_view.specs.declared.data.Held.{Held}
use Rattle.dur_store.specs.Members.{MembersNow, members_of}
use Rattle.dur_store.proofs.HeldLists.{members-pop}
use Rattle.dur_store.proofs.members.Members.pop.Goals.{in-Some-pop, in-None+in-Some-1, in-None+in-None-1}
use Rattle.dur_store.proofs.members.Members.pop.Goals as goal

pub returns-clause-items : goal.returns-clause-items
returns-clause-items c =
    let a = c.self.inside.samples.ok.0 in
    let b = c.self.inside.taken.ok.0 in
    let i = c.self.invariant in
    elim c.match-pop-2.branch [
      | in-Some-pop w ↦
          members-pop c.self.inside.samples.items c.pop.new.self.items c.self.inside.taken.items c.pop-2.new.self.items c.pop.result c.pop-2.result c.in-Some.sample w.in-Some-pop.taken c.args.self.now.items
          (omega arith) c.pop.ensures.items c.pop-2.ensures.items c.in-Some.is w.in-Some-pop.is (ap (λ (m : MembersNow). m.items) c.self.view_is)
          ∙ ap (λ (o : Option Held). members_of c.pop.new.self.items c.pop-2.new.self.items ++ option_to_list o) (sym w.result-is)
      | in-None+in-Some-1 w ↦ absurd (let d = w.in-None.ensures.cases.0 in let e = c.in-Some.ensures.cases in omega arith)
      | in-None+in-None-1 w ↦ absurd (let d = w.in-None.ensures.cases.0 in let e = c.in-Some.ensures.cases in omega arith)
    ]

pub returns-clause-none : goal.returns-clause-none
returns-clause-none c = λ none.
    let a = c.self.inside.samples.ok.0 in
    let b = c.self.inside.taken.ok.0 in
    let i = c.self.invariant in
    elim c.match-pop-2.branch [
      | in-Some-pop w ↦ absurd (let e = w.result-is in cc)
      | in-None+in-Some-1 w ↦ absurd (let d = w.in-None.ensures.cases.0 in let e = c.in-Some.ensures.cases in omega arith)
      | in-None+in-None-1 w ↦ absurd (let d = w.in-None.ensures.cases.0 in let e = c.in-Some.ensures.cases in omega arith)
    ]

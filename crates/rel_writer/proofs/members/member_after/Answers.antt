use Rattle.std.proofs.Common.{refl, inl, inr}
use Rattle.rel_writer.proofs.Marks.{member_is, no_member}
use Rattle.rel_writer.proofs.members.member_after.Goals as goal

pub returns-in-Of : goal.returns-in-Of
returns-in-Of c = λ before l len.
    member_is before c.args.change.now c.args.last _ _ _ c.in-Of.is l len c.first_after.ensures

pub returns-in-NoSet : goal.returns-in-NoSet
returns-in-NoSet c = λ before l len. elim c.in-NoSet.is [
  | inl none ↦ no_member before c.args.change.now _ none (λ w p. refl)
  | inr ends ↦ no_member before c.args.change.now _ ends (λ w p. refl)
]

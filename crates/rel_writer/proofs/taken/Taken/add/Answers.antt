use Rattle.std.proofs.Common.{◌∙◌, ap, refl}
use Rattle.std.specs.Prelude.{◌||◌}
use Rattle.rel_writer.proofs.Handed.{added}
use Rattle.rel_writer.proofs.taken.Taken.add.Goals as goal

pub returns-clause-held : goal.returns-clause-held
returns-clause-held c = λ xs h.
    added _ _ xs c.args.sample h c.keep.ensures.items
    (rw (
      c.pick-self.ensures,
      c.is_some.ensures,
      c.pick-before.ensures,
      c.is_same_set.ensures,
      c.count.ensures,
      c.count-2.ensures,
      c.set_of-set.ensures,
    ) refl) c.set_of-set.ensures
    (c.either-self.ensures ∙ ap (λ b. c.args.self.now.done || b) c.marks.ensures)

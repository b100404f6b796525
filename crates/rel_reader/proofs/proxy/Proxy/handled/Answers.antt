use Rattle.std.proofs.Common.{◌∙◌, ap, refl, arith}
use Rattle.rel_reader.specs.Stories.{next}
use Rattle.rel_reader.specs.KnownNumbers.{known}
use Rattle.rel_reader.specs.Windows.{known_in}
use Rattle.rel_reader.proofs.Moving.{some_is, skip_of, pulled}
use Rattle.rel_reader.proofs.proxy.Proxy.handled.Goals as goal

pub returns-then-is_irrelevant-clause-skip : goal.returns-then-is_irrelevant-clause-skip
returns-then-is_irrelevant-clause-skip c = λ h s e.
    (refl, (c.end_of_skip-end.result, (skip_of _ h _ s c.end_of_skip-end.ensures.range.0 c.end_of_skip-end.ensures.each c.end_of_skip-end.ensures.ends, c.move_to.ensures.shows (next h) (known h) s)))

pub returns-clause-sample : goal.returns-clause-sample
returns-clause-sample c = λ h s fit e.
    (some_is _ _ s c.pull.ensures.some c.pull.ensures.value (ap (known_in c.args.self.now) fit.next ∙ fit.each (next h) (omega arith) ∙ e), rw c.pull.ensures.after (pulled _ c.pull.ensures.size (next h) (known h) fit))

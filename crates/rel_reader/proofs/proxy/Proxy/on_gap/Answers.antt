use Rattle.rel_reader.specs.Stories.{next}
use Rattle.rel_reader.specs.KnownNumbers.{known}
use Rattle.rel_reader.proofs.Learning.{same_shown}
use Rattle.rel_reader.proofs.Sets.{gap_said}
use Rattle.rel_reader.proofs.proxy.Proxy.on_gap.Goals as goal

pub returns : goal.returns
returns c = λ h s. same_shown _ _ _ _ (λ k. gap_said (next h) c.args.start c.args.set.now (known h k) k) (c.pass_named.ensures _ _ (rw (c.get-start.ensures.value, c.get-base.ensures.value, c.base.ensures) at (c.pass_below.ensures _ _ s)))

use Rattle.rtps_frag.proofs.joiner.Joiner.hear.Goals as goal

pub returns-in-Ok-clause-only : goal.returns-in-Ok-clause-only
returns-in-Ok-clause-only c = rw (← c.in-Ok.ensures, ← c.of.ensures) c.hear_of-in-Ok.ensures.only

pub returns-in-Ok-clause-plain : goal.returns-in-Ok-clause-plain
returns-in-Ok-clause-plain c = rw (← c.in-Ok.ensures, ← c.of.ensures) c.hear_of-in-Ok.ensures.plain

use Rattle.rtps_message.proofs.hearing.facts.Goals as goal

pub returns-in-Ok-clause-only : goal.returns-in-Ok-clause-only
returns-in-Ok-clause-only c = rw (← c.in-Ok.ensures, ← c.of.ensures) c.facts_of-in-Ok.ensures.only

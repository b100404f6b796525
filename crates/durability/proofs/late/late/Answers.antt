use Rattle.std.proofs.Common.{inl}
use Rattle.dur_rerun.proofs.LateRuns.{took_none, prints_none}
use Rattle.durability.proofs.TopCall.{of_late, not_late}
use Rattle.durability.proofs.late.late.Goals as goal

pub returns-in-Ok-clause-usage : goal.returns-in-Ok-clause-usage
returns-in-Ok-clause-usage g c is first turns h = c.run.ensures.usage is first turns (of_late _ c.in-Ok.line c.in-Ok.ensures.line first turns h)

pub returns-in-Ok-clause-none : goal.returns-in-Ok-clause-none
returns-in-Ok-clause-none g c never = inl (c.run.ensures.none (not_late _ c.in-Ok.line c.in-Ok.ensures.line never))

pub returns-in-Ok-clause-takes : goal.returns-in-Ok-clause-takes
returns-in-Ok-clause-takes g c first turns h = c.run.ensures.takes first turns (of_late _ c.in-Ok.line c.in-Ok.ensures.line first turns h)

pub returns-in-Ok-clause-complete : goal.returns-in-Ok-clause-complete
returns-in-Ok-clause-complete g c told first turns h = c.run.ensures.complete told first turns (of_late _ c.in-Ok.line c.in-Ok.ensures.line first turns h)

pub returns-in-Err-OutOfMemory-clause-takes : goal.returns-in-Err-OutOfMemory-clause-takes
returns-in-Err-OutOfMemory-clause-takes g c first turns h = (first, took_none first turns g.L.Link.tells _ _, prints_none first g.K.Machine.tells _ _ _)

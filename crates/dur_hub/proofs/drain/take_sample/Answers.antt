use Rattle.std.proofs.Common.{refl, ap, Err, arith}
use Rattle.dur_hub.proofs.Turning.{turn_took, turn_refused, turn_stopped, known_with}
use Rattle.dur_hub.proofs.drain.take_sample.Goals as goal

pub returns-in-Ok-admit : goal.returns-in-Ok-admit
returns-in-Ok-admit c =
    turn_took _ _ _ _ _ _ _ c.args.number c.sample.result.now c.in-Ok.sample c.requires.next
    c.requires.short c.sample.ensures.sample c.in-Ok.ensures c.in-Ok-admit.ensures.ok
    (λ s z fits is. (c.handled-sample.ensures.sample s z fits is).1)
    (c.handled-sample.ensures.rises (known_with _ c.requires.has) (omega (arith, c.requires.next, c.requires.short)))

pub returns-in-Err-OutOfMemory : goal.returns-in-Err-OutOfMemory
returns-in-Err-OutOfMemory c = turn_stopped _ _ _ _ _ _ _ c.in-Err-OutOfMemory.ensures.err refl

pub returns-in-Err-Limit : goal.returns-in-Err-Limit
returns-in-Err-Limit c =
    turn_refused _ _ _ _ _ _ _ c.args.number c.sample.result.now c.in-Ok.sample _ c.requires.next
    c.requires.short c.sample.ensures.sample c.in-Ok.ensures c.in-Err-Limit.ensures.err
    (c.in-Err-Limit.ensures.limit c.in-Err-Limit.limit (ap Err c.in-Err-Limit.field-0-is))
    c.refuse.ensures

use Rattle.std.specs.Prelude.{IfSome}
use Rattle.dur_rerun.specs.Command.{Arrives, GoesOut}
use Rattle.durability.specs.Calls.{answers_of}
use Rattle.durability.specs.declared.words.Line.{Line}
use Rattle.durability.proofs.TopCall.{each_input, of_check, of_rerun}
use Rattle.durability.proofs.run.durability.Goals as goal

pub returns-in-Ok-clause-arrives : goal.returns-in-Ok-clause-arrives
returns-in-Ok-clause-arrives g c l h =
    rw c.told.ensures.same
    (each_input
    (λ (x : Line). IfSome (g.S.Source.left c.args.input.now) (λ bytes. Arrives (answers_of x) bytes c.run.result.status (g.S.Source.faults c.args.input.now) (g.S.Source.faults c.run.new.input) (g.R.Machine.sink_faults c.args.rig) (g.R.Machine.sink_faults c.run.result.rig)))
    _ c.in-Ok.line c.in-Ok.ensures.line c.run.ensures.arrives l h)

pub returns-in-Ok-clause-out : goal.returns-in-Ok-clause-out
returns-in-Ok-clause-out g c l h =
    rw c.told.ensures.same
    (each_input
    (λ (x : Line). IfSome (g.S.Source.left c.args.input.now) (λ bytes. GoesOut (answers_of x) bytes c.run.result.status g.R.Machine.tells (g.R.Machine.world c.args.rig).now (g.R.Machine.world c.run.result.rig).now))
    _ c.in-Ok.line c.in-Ok.ensures.line c.run.ensures.out l h)

pub returns-in-Ok-clause-checks : goal.returns-in-Ok-clause-checks
returns-in-Ok-clause-checks g c l h =
    rw c.told.ensures.same (of_check _ _ c.in-Ok.line c.in-Ok.ensures.line c.run.ensures.checks l h)

pub returns-in-Ok-clause-reruns : goal.returns-in-Ok-clause-reruns
returns-in-Ok-clause-reruns g c l h =
    rw c.told.ensures.same (of_rerun _ _ c.in-Ok.line c.in-Ok.ensures.line c.run.ensures.reruns l h)

pub returns-in-Ok-clause-keeps : goal.returns-in-Ok-clause-keeps
returns-in-Ok-clause-keeps g c never =
    rw c.told.ensures.same (c.run.ensures.keeps (λ files. never c.in-Ok.line (c.in-Ok.ensures.line, files)))

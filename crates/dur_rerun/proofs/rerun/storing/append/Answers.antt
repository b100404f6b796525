use Rattle.dur_outside.specs.World.{Leaves}
use Rattle.dur_journal.specs.Kept.{Kept, IsOneOf}
use Rattle.dur_journal.specs.Journals.{Stands}
use Rattle.dur_rerun.proofs.Batches.{take_from, take_count, take_good, take_hands, take_gives}
use Rattle.dur_rerun.proofs.rerun.storing.append.Goals as goal

pub commit-requires-clause-from : goal.commit-requires-clause-from
commit-requires-clause-from g c = take_from c.args.hub.now c.take-batch.new.self c.args.journal.position c.take-batch.result c.requires.settled c.take-batch.ensures

pub commit-requires-clause-count : goal.commit-requires-clause-count
commit-requires-clause-count g c = take_count c.args.hub.now c.take-batch.new.self c.args.journal.position c.take-batch.result c.requires.settled c.take-batch.ensures

pub commit-requires-clause-good : goal.commit-requires-clause-good
commit-requires-clause-good g c = take_good c.args.hub.now c.take-batch.new.self c.args.journal.position c.take-batch.result c.requires.settled c.take-batch.ensures

pub returns-in-Ok-clause-hands : goal.returns-in-Ok-clause-hands
returns-in-Ok-clause-hands g c =
    take_hands c.args.hub.now c.take-batch.new.self c.args.journal.position c.args.journal.appended c.take-batch.result c.in-Ok.stored.0 c.in-Ok.stored.1 c.take-batch.ensures c.requires.small
    c.in-Ok.ensures.position c.in-Ok.ensures.receipt

pub returns-in-Ok-clause-run : goal.returns-in-Ok-clause-run
returns-in-Ok-clause-run g c = λ told plan k begun log stands settled keeping.
    take_gives (λ (next : Kept). Leaves (g.R.Machine.world c.args.journal.disk) (g.R.Machine.world c.in-Ok.stored.0.disk) (IsOneOf plan (g.R.Machine.world c.args.journal.disk).now k next))
    plan k begun log c.args.hub.now c.take-batch.new.self c.take-batch.result c.args.journal (g.R.Machine.world c.args.journal.disk) c.take-batch.ensures c.requires.small stands settled keeping
    (λ follow. c.in-Ok.ensures.run told plan k stands follow)

pub returns-in-Ok-clause-kept : goal.returns-in-Ok-clause-kept
returns-in-Ok-clause-kept g c = λ told plan k begun log stands settled keeping.
    take_gives (λ (next : Kept). Stands plan next c.in-Ok.stored.0 (g.R.Machine.world c.in-Ok.stored.0.disk))
    plan k begun log c.args.hub.now c.take-batch.new.self c.take-batch.result c.args.journal (g.R.Machine.world c.args.journal.disk) c.take-batch.ensures c.requires.small stands settled keeping
    (λ follow. c.in-Ok.ensures.ok told plan k stands follow)

pub returns-in-Err-Disk-default-clause-run : goal.returns-in-Err-Disk-default-clause-run
returns-in-Err-Disk-default-clause-run g c = λ told plan k begun log stands settled keeping.
    take_gives (λ (next : Kept). Leaves (g.R.Machine.world c.args.journal.disk) (g.R.Machine.world c.in-Err-Disk-default.rig) (IsOneOf plan (g.R.Machine.world c.args.journal.disk).now k next))
    plan k begun log c.args.hub.now c.take-batch.new.self c.take-batch.result c.args.journal (g.R.Machine.world c.args.journal.disk) c.take-batch.ensures c.requires.small stands settled keeping
    (λ follow. c.in-Err-Disk-default.ensures.run told plan k stands follow)

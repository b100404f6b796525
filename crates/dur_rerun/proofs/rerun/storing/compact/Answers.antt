use Rattle.std.proofs.Common.{subst, arith}
use Rattle.dur_outside.specs.World.{Leaves}
use Rattle.dur_journal.specs.Kept.{Kept, IsOneOf}
use Rattle.dur_journal.specs.Journals.{Stands}
use Rattle.dur_journal.specs.Stores.{CompactAnswers}
use Rattle.dur_rerun.proofs.Batches.{view_from, view_may, view_hands, view_gives, view_full}
use Rattle.dur_rerun.proofs.rerun.storing.compact.Goals as goal

pub compact-requires-clause-from : goal.compact-requires-clause-from
compact-requires-clause-from g c = view_from c.args.hub.now c.take_view.new.self c.args.journal.position c.in-Ok.given.0 c.in-Ok.given.1 c.requires.settled c.in-Ok.ensures

pub compact-requires-clause-base : goal.compact-requires-clause-base
compact-requires-clause-base g c = view_may c.args.hub.now c.take_view.new.self c.args.journal.position c.in-Ok.given.0 c.in-Ok.given.1 c.requires.settled c.in-Ok.ensures

pub returns-in-Ok-compact-clause-hands : goal.returns-in-Ok-compact-clause-hands
returns-in-Ok-compact-clause-hands g c =
    view_hands c.args.hub.now c.take_view.new.self c.args.journal.position c.args.journal.appended c.in-Ok.given.0 c.in-Ok.given.1 c.in-Ok-compact.stored.0 c.in-Ok-compact.stored.1 c.in-Ok.ensures c.requires.large
    (omega (arith, c.len-count.ensures)) c.in-Ok-compact.ensures.position c.in-Ok-compact.ensures.receipt

pub returns-in-Ok-compact-clause-run : goal.returns-in-Ok-compact-clause-run
returns-in-Ok-compact-clause-run g c = λ told plan k begun log stands settled keeping.
    view_gives (λ (next : Kept). Leaves (g.R.Machine.world c.args.journal.disk) (g.R.Machine.world c.in-Ok-compact.stored.0.disk) (IsOneOf plan (g.R.Machine.world c.args.journal.disk).now k next))
    plan k begun log c.args.hub.now c.take_view.new.self c.in-Ok.given.0 c.in-Ok.given.1 c.args.journal (g.R.Machine.world c.args.journal.disk) c.in-Ok.ensures c.requires.large stands settled keeping
    (λ whole. c.in-Ok-compact.ensures.run told plan k stands whole)

pub returns-in-Ok-compact-clause-kept : goal.returns-in-Ok-compact-clause-kept
returns-in-Ok-compact-clause-kept g c = λ told plan k begun log stands settled keeping.
    view_gives (λ (next : Kept). Stands plan next c.in-Ok-compact.stored.0 (g.R.Machine.world c.in-Ok-compact.stored.0.disk))
    plan k begun log c.args.hub.now c.take_view.new.self c.in-Ok.given.0 c.in-Ok.given.1 c.args.journal (g.R.Machine.world c.args.journal.disk) c.in-Ok.ensures c.requires.large stands settled keeping
    (λ whole. c.in-Ok-compact.ensures.ok told plan k stands whole)

pub returns-in-Err-Disk-default-clause-run : goal.returns-in-Err-Disk-default-clause-run
returns-in-Err-Disk-default-clause-run g c = λ told plan k begun log stands settled keeping.
    view_gives (λ (next : Kept). Leaves (g.R.Machine.world c.args.journal.disk) (g.R.Machine.world c.in-Err-Disk-default.rig) (IsOneOf plan (g.R.Machine.world c.args.journal.disk).now k next))
    plan k begun log c.args.hub.now c.take_view.new.self c.in-Ok.given.0 c.in-Ok.given.1 c.args.journal (g.R.Machine.world c.args.journal.disk) c.in-Ok.ensures c.requires.large stands settled keeping
    (λ whole. c.in-Err-Disk-default.ensures.run told plan k stands whole)

pub returns-in-Err-Full-default-clause-fails : goal.returns-in-Err-Full-default-clause-fails
returns-in-Err-Full-default-clause-fails g c =
    view_full c.args.hub.now c.take_view.new.self c.args.journal.position c.args.journal.appended c.args.journal.generation c.in-Ok.given.0 c.in-Ok.given.1 c.in-Err-Full-default.size c.in-Ok.ensures c.requires.large
    (subst (CompactAnswers c.args.journal.generation c.in-Ok.given.1) c.in-Err-Full-default.field-0-0-is c.in-Err-Full-default.ensures.answers)

use Rattle.std.proofs.Common.{◌≡◌, ◌≤◌, arith, sym}
use Rattle.dur_view.specs.History.{Start, ◌+>◌}
use Rattle.dur_view.specs.Full.{full}
use Rattle.dur_view.specs.Persistent.{persistent_plan}
use Rattle.dur_journal.proofs.Completed.{completes}
use Rattle.dur_journal.proofs.Restored.{follow_short, kept_so, kept_told, part_good, part_keeps}
use Rattle.dur_journal.proofs.part.kept_view.Goals as goal

pub of_view-requires-clause-plan : goal.of_view-requires-clause-plan
of_view-requires-clause-plan c = part_good c.args.plan.now c.in-Ok.part c.in-Ok.ensures c.requires.good

pub restored-requires : goal.restored-requires
restored-requires c = follow_short (Start c.args.start) c.args.entries c.requires.follow

pub view-requires : goal.view-requires
view-requires c =
    let h = Start (full (persistent_plan c.args.plan.now) c.args.start) +> c.args.entries in
    let keeps = part_keeps c.args.plan.now c.in-Ok.part c.args.start c.args.entries c.in-Ok-of_view.first c.in-Ok-restored.store c.requires c.in-Ok.ensures c.in-Ok-of_view.ensures c.in-Ok-restored.ensures in
    let last = c.last-last.ensures h keeps in
    (h, keeps, (completes c.args.plan.now c.args.start c.args.entries c.requires).history, omega (arith, last))

pub returns-clause-view : goal.returns-clause-view
returns-clause-view c =
    let keeps = part_keeps c.args.plan.now c.in-Ok.part c.args.start c.args.entries c.in-Ok-of_view.first c.in-Ok-restored.store c.requires c.in-Ok.ensures c.in-Ok-of_view.ensures c.in-Ok-restored.ensures in
    kept_told c.args.plan.now c.args.start c.args.entries c.in-Ok-restored.store c.last-last.result c.view.result c.requires keeps c.last-last.ensures c.view.ensures

pub returns-clause-kept : goal.returns-clause-kept
returns-clause-kept c = kept_so c.args.plan.now c.args.start c.args.entries c.view.result c.requires (returns-clause-view c)

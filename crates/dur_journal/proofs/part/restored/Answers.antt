use Rattle.std.proofs.Common.{◌∙◌, arith, sym, subst}
use Rattle.std.specs.List.{AllByRecursion}
use Rattle.dur_view.specs.History.{HasShortNumber}
use Rattle.dur_journal.proofs.Restored.{restoring_start, restoring_more, restored_all, none_of_length}
use Rattle.dur_journal.proofs.part.restored.Goals as goal

pub loop-entry-init : goal.loop-entry-init
loop-entry-init c =
    let is = c.into_iter-entry-iterator.ensures.into_iter_gives.0 ∙ c.into_vec-entry-items.ensures in
    record { keeps = λ h keeps follow. restoring_start _ h c.args.entries _ is keeps follow; short = subst (AllByRecursion HasShortNumber) (sym is) c.requires }

pub restore-requires : goal.restore-requires
restore-requires c = (subst (AllByRecursion HasShortNumber) c.in-Some.ensures.steps.0 c.loop-entry.invariant.short).0

pub loop-entry-preserved : goal.loop-entry-preserved
loop-entry-preserved c =
    let is = c.in-Some.ensures.steps.0 in
    record {
      keeps = λ h keeps follow. restoring_more _ _ h c.args.entries _ c.next.new.self.rest.items c.in-Some.entry is (c.loop-entry.invariant.keeps h keeps follow) c.in_ok-restore.ensures.ok;
      short = (subst (AllByRecursion HasShortNumber) is c.loop-entry.invariant.short).1;
    }

pub returns : goal.returns
returns c = λ h keeps follow.
    let items = c.loop-entry.entry-iterator.rest.items in
    restored_all _ h c.args.entries items (none_of_length items (omega (arith, c.in-None.ensures.steps.0, c.loop-entry.entry-iterator.rest.ok.0))) (c.loop-entry.invariant.keeps h keeps follow)

use Rattle.std.proofs.Common.{None, length, ◌+◌, sym, ◌∙◌}
use Rattle.dur_instances.specs.Places.{kept_in}
use Rattle.dur_instances.specs.Would.{count_asked, left_after}
use Rattle.dur_instances.proofs.Bounds.{within, few-left}
use Rattle.dur_instances.proofs.would.are_changes_over.Goals as goal

pub returns-then-not-is_over : goal.returns-then-not-is_over
returns-then-not-is_over c =
    let ps = c.args.places.now in
    let ss = c.args.samples.now in
    sym (within c.args.limit (length ps + length ss) (count_asked None (left_after c.args.cells.now (kept_in ps) c.args.depth c.args.longest c.args.now ss)) (sym c.is_over.ensures ∙ c.if-not-is_over.true)
    (few-left c.args.cells.now ps c.args.depth c.args.longest c.args.now ss None))

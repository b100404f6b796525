use Rattle.std.proofs.Common.{length, ◌+◌, List, sym, ap, ◌∙◌}
use Rattle.dur_view.specs.Refused.{is_over}
use Rattle.dur_instances.specs.declared.cells.Cell.{Cell}
use Rattle.dur_instances.specs.Layout.{cells_there}
use Rattle.dur_instances.specs.Would.{is_there_in, new_keys}
use Rattle.dur_instances.proofs.Bounds.{within, few-there}
use Rattle.dur_instances.proofs.would.are_instances_over.Goals as goal

pub returns-then-not-is_over : goal.returns-then-not-is_over
returns-then-not-is_over c =
    let cells = c.args.cells.now in
    let ss = c.args.samples.now in
    let there = is_there_in cells c.args.longest c.args.now in
    sym (within c.args.limit (length cells + length ss) (length (cells_there cells c.args.longest c.args.now) + new_keys there ss)
    (ap (λ n. is_over c.args.limit (n + length ss)) (sym (c.len.ensures ∙ ap (λ (l : List Cell). length l) c.cells.ensures)) ∙ sym c.is_over.ensures ∙ c.if-not-is_over.true)
    (few-there cells c.args.longest c.args.now there ss))

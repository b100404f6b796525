use Rattle.std.proofs.Common.{rules, refl}
use Rattle.dur_rerun.specs.Rerun.Opening.{AreNumbered}
use Rattle.dur_rerun.proofs.Sendable.{opened_ok}
use Rattle.dur_rerun.proofs.rerun.opening.open_hub.Goals as goal

pub returns-clause-over : goal.returns-clause-over
returns-clause-over c =
    let numbered : AreNumbered c.args.view.writers = search (rules, c.see_numbers.ensures, c.as_slice.ensures) in
    opened_ok c.args.plan c.args.view c.new.result c.requires numbered c.new.ensures

pub returns-clause-opens : goal.returns-clause-opens
returns-clause-opens c =
    let numbered : AreNumbered c.args.view.writers = search (rules, c.see_numbers.ensures, c.as_slice.ensures) in
    record { view = c.args.view; working = 0; may = c.requires; numbered = numbered; is = refl }

use Rattle.std.proofs.Common.{◌≡◌, List, IfOk, subst, ap, ◌∙◌}
use Rattle.dur_base.specs.declared.entry.Entry.{Entry}
use Rattle.dur_view.specs.declared.data.View.{View}
use Rattle.dur_view.specs.History.{History, Start, ◌+>◌}
use Rattle.dur_view.specs.Full.{nothing}
use Rattle.dur_journal.specs.Histories.{view_of, completed, blank_of}
use Rattle.dur_journal.proofs.Completed.{blank_is, nothing_can}
use Rattle.dur_journal.proofs.part.first_view.Goals as goal

pub kept_view-requires : goal.kept_view-requires
kept_view-requires c = rw (c.nothing_of-nothing.ensures, c.new-none.ensures) (nothing_can c.args.plan.now c.requires)

pub returns-clause-view : goal.returns-clause-view
returns-clause-view c =
    let plan = c.args.plan.now in
    let same : completed plan (Start c.nothing_of-nothing.result +> c.new-none.result) ≡ Start (blank_of plan) =
    ap (λ (v : View). completed plan (Start v +> c.new-none.result)) c.nothing_of-nothing.ensures
    ∙ ap (λ (es : List Entry). completed plan (Start nothing +> es)) c.new-none.ensures ∙ blank_is plan in
    subst (λ (h : History). IfOk c.kept_view.result (λ v. v ≡ view_of h)) same c.kept_view.ensures.view

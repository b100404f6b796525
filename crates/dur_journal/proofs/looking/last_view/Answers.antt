use Rattle.std.proofs.Common.{◌≡◌, ◌∙◌, List, arith, sym, subst, ap}
use Rattle.std.specs.List.{AllByRecursion}
use Rattle.dur_base.specs.declared.entry.Entry.{Entry}
use Rattle.dur_view.specs.History.{History, Start, ◌▸◌, ◌+>◌, HasShortNumber}
use Rattle.dur_journal.specs.Reading.{history_of}
use Rattle.dur_view.specs.IsSound.{IsHistory}
use Rattle.dur_journal.proofs.Restored.{follow_short, none_of_length, read_history, last_told}
use Rattle.dur_journal.proofs.looking.last_view.Goals as goal

pub loop-entry-init : goal.loop-entry-init
loop-entry-init c =
    let is = c.into_iter-entry-iterator.ensures.into_iter_gives.0 ∙ c.into_vec-entry-items.ensures in
    record {
      joins = ap (λ (l : List Entry). c.of_view-history.result +> l) is ∙ ap (λ (h : History). h +> c.args.read.entries) c.of_view-history.ensures;
      short = subst (AllByRecursion HasShortNumber) (sym is) (follow_short (Start c.args.read.start) c.args.read.entries c.requires.follow);
    }

pub restore-requires : goal.restore-requires
restore-requires c = (subst (AllByRecursion HasShortNumber) c.in-Some.ensures.steps.0 c.loop-entry.invariant.short).0

pub loop-entry-preserved : goal.loop-entry-preserved
loop-entry-preserved c =
    let is = c.in-Some.ensures.steps.0 in
    record {
      joins = ap (λ (h : History). h +> c.next.new.self.rest.items) c.in_ok-restore.ensures.ok ∙ ap (λ (l : List Entry). c.loop-entry.history +> l) (sym is) ∙ c.loop-entry.invariant.joins;
      short = (subst (AllByRecursion HasShortNumber) is c.loop-entry.invariant.short).1;
    }

pub view-requires-clause-history : goal.view-requires-clause-history
view-requires-clause-history c =
    let items = c.loop-entry.entry-iterator.rest.items in
    let none = none_of_length items (omega (arith, c.in-None.ensures.steps.0, c.loop-entry.entry-iterator.rest.ok.0)) in
    let is : c.loop-entry.history ≡ history_of c.args.read = ap (λ (l : List Entry). c.loop-entry.history +> l) (sym none) ∙ c.loop-entry.invariant.joins in
    subst IsHistory (sym is) (read_history c.args.read c.requires)

pub returns : goal.returns
returns c =
    let items = c.loop-entry.entry-iterator.rest.items in
    let none = none_of_length items (omega (arith, c.in-None.ensures.steps.0, c.loop-entry.entry-iterator.rest.ok.0)) in
    let is : c.loop-entry.history ≡ history_of c.args.read = ap (λ (l : List Entry). c.loop-entry.history +> l) (sym none) ∙ c.loop-entry.invariant.joins in
    last_told _ c.loop-entry.history _ c.last-last.result c.view.ensures c.last-last.ensures is

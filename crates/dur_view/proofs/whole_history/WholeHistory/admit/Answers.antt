use Rattle.std.proofs.Common.{List, sym, ap, ◌∙◌}
use Rattle.dur_base.specs.declared.entry.Entry.{Entry}
use Rattle.dur_view.specs.History.{Start, ◌▸◌, ◌+>◌}
use Rattle.dur_view.specs.Extend.{extend-push}
use Rattle.dur_view.specs.Refused.{refused}
use Rattle.dur_view.proofs.whole_history.WholeHistory.admit.Goals as goal
use Rattle.dur_view.proofs.whole_history.WholeHistory.admit.Goals.{in-Ok, in-Err-pushed}

pub returns-clause-ok : goal.returns-clause-ok
returns-clause-ok c =
    let begun = Start c.self.inside.start in
    let e = c.args.entry in
    elim c.match-pushed.branch [
      | in-Ok w ↦
          rw w.result-is (record {
            within = ap (λ h. refused h e) (sym c.self.view_is) ∙ ap (λ (l : List Entry). refused (begun +> l) e) (sym c.deref.ensures.value) ∙ sym c.in-Ok-None.ensures ∙ c.in-Ok-None.field-0-is;
            added = ap (λ (l : List Entry). begun +> l) w.in-Ok.ensures.items ∙ extend-push begun c.self.inside.entries.items e ∙ ap (λ h. h ▸ e) c.self.view_is;
          })
      | in-Err-pushed w ↦ rw w.result-is tt
    ]

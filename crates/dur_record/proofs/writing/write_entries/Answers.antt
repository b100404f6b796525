use Rattle.std.proofs.Common.{◌≡◌, List, [], ◌++◌, Some, None, sym, ◌∙◌, ap, subst, append-nil}
use Rattle.std.specs.List.{AllByRecursion}
use Rattle.dur_base.specs.declared.entry.Entry.{Entry}
use Rattle.dur_record.specs.Texts.{entries_text, IsTypedEntry}
use Rattle.dur_record.proofs.Back.{entries_spell, all_fit, all_fit_after, nothing_left}
use Rattle.dur_record.proofs.writing.write_entries.Goals as goal

pub returns-clause-text : goal.returns-clause-text
returns-clause-text c =
    let none : c.loop-rest.rest.now ≡ [] = nothing_left c.loop-rest.rest.now c.in_default.len_below in
    sym (c.loop-rest.invariant.text ∙ ap (λ (l : List Entry). c.loop-rest.out ++ entries_text l) none ∙ append-nil c.loop-rest.out)

pub returns-clause-back : goal.returns-clause-back
returns-clause-back c =
    let none : c.loop-rest.rest.now ≡ [] = nothing_left c.loop-rest.rest.now c.in_default.len_below in
    let typed = c.loop-rest.invariant.typed (subst (λ (l : List Entry). AllByRecursion IsTypedEntry l) (sym none) tt) in
    entries_spell None c.args.entries.now c.requires typed (all_fit c.args.entries.now)

pub returns-clause-following : goal.returns-clause-following
returns-clause-following c h follow =
    let none : c.loop-rest.rest.now ≡ [] = nothing_left c.loop-rest.rest.now c.in_default.len_below in
    let typed = c.loop-rest.invariant.typed (subst (λ (l : List Entry). AllByRecursion IsTypedEntry l) (sym none) tt) in
    entries_spell (Some h) c.args.entries.now c.requires typed (all_fit_after h c.args.entries.now follow)

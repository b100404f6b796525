use Rattle.std.proofs.Common.{◌∙◌, sym}
use Rattle.dur_store.specs.Places.{found}
use Rattle.dur_store.proofs.Lists.{got, got-none}
use Rattle.dur_store.proofs.Writers.{next-none, kept-at, next-at, none-at}
use Rattle.dur_store.proofs.store.Store.next.Goals as goal

pub returns-in_default : goal.returns-in_default
returns-in_default c = λ h keeps. c.one.ensures ∙ sym (next-none h c.args.writer (found c.args.self.now.index c.args.writer) keeps.history (keeps.index c.args.writer) (sym c.in_default.ensures))

pub returns-in-Some-get : goal.returns-in-Some-get
returns-in-Some-get c = λ h keeps.
    next-at _ h c.in-Some.place c.args.writer c.in-Some-get.line.now (kept-at _ h c.in-Some.place c.args.writer (found c.args.self.now.index c.args.writer) keeps.writers keeps.history (keeps.index c.args.writer) (sym c.in-Some.ensures)) (got _ _ c.in-Some.place c.in-Some-get.line.now c.deref.ensures.value c.in-Some-get.ensures.lookup.3.0 (c.in-Some-get.ensures.lookup.3.1 c.in-Some-get.line.now))

pub returns-in-None : goal.returns-in-None
returns-in-None c = λ h keeps.
    absurd (none-at _ h c.in-Some.place c.args.writer (kept-at _ h c.in-Some.place c.args.writer (found c.args.self.now.index c.args.writer) keeps.writers keeps.history (keeps.index c.args.writer) (sym c.in-Some.ensures)) (got-none _ _ c.in-Some.place c.deref.ensures.value c.in-None.ensures.lookup.3))

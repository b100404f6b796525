use Rattle.std.proofs.Common.{◌≡◌, ℕ, false, true, Ok, Err, refl, sym, subst}
use Rattle.dur_base.specs.declared.entry.Entry.{Entry}
use Rattle.dur_base.specs.declared.entry.Entry.TheVariants.{Skip}
use Rattle.dur_view.specs.Identities.{Guid}
use Rattle.dur_view.specs.History.{History, ◌▸◌, Follows}
use Rattle.dur_store.specs.declared.refuse.Refuse.TheVariants.{OutOfMemory}
use Rattle.dur_store.specs.declared.store.Store.{Store}
use Rattle.dur_store.specs.Admitting.{Admitting}
use Rattle.dur_store.specs.Keeps.{Keeps}
use Rattle.dur_store.proofs.store.Store.admit.Goals as goal

-- a skip passes no limit
skipped : (old new : Store) (entry : Entry) (m : ℕ) (w : Guid) (from to : ℕ) → entry ≡ Skip m w from to → ((h : History) → Keeps old h → Follows h (Skip m w from to) → Keeps new (h ▸ Skip m w from to)) → Admitting old entry new (Ok tt)
skipped old new entry m w from to is keeps =
    subst (λ (e : Entry). Admitting old e new (Ok tt)) (sym is) record {
      ok = λ h kept follows. (keeps h kept follows, refl);
      err = tt;
      back = tt;
      limit = λ limit back same h kept follows. absurd (cc);
      memory = λ has h kept follows. tt;
    }

pub returns-in-Ok : goal.returns-in-Ok
returns-in-Ok c =
    skipped c.args.self.now c.skip.new.self c.args.entry c.in-Skip.moment c.in-Skip.writer c.in-Skip.from c.in-Skip.to c.in-Skip.is (λ h kept follows. c.in-Ok.ensures.ok h c.in-Skip.from kept follows)

-- and is refused for want of memory alone, which never comes where it follows
unskipped : (old new : Store) (entry : Entry) (m : ℕ) (w : Guid) (from to : ℕ) → entry ≡ Skip m w from to → ((h : History) → Keeps old h → Keeps new h) → ((h : History) → Keeps old h → Follows h (Skip m w from to) → false ≡ true)
    → Admitting old entry new (Err (OutOfMemory, Skip m w from to))
unskipped old new entry m w from to is keeps never =
    subst (λ (e : Entry). Admitting old e new (Err (OutOfMemory, Skip m w from to))) (sym is) record {
      ok = tt;
      err = keeps;
      back = refl;
      limit = λ limit back same h kept follows. absurd (let e = never h kept follows in cc);
      memory = λ has h kept follows. absurd (let e = never h kept follows in cc);
    }

pub returns-in-Err : goal.returns-in-Err
returns-in-Err c =
    unskipped c.args.self.now c.skip.new.self c.args.entry c.in-Skip.moment c.in-Skip.writer c.in-Skip.from c.in-Skip.to c.in-Skip.is c.in-Err.ensures.err (λ h kept follows. c.in-Err.ensures.memory h c.in-Skip.from kept follows)

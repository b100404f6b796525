use Rattle.std.proofs.Common.{refl, subst, true, false}
use Rattle.std.specs.Prelude.{Ok, Err}
use Rattle.dur_hub.specs.Replays.{MayReplay}
use Rattle.dur_hub.proofs.Replaying.{refuses, wants_memory, same_given, replays}
use Rattle.dur_hub.proofs.hub.Hub.snapshot.Goals as goal

pub returns-in-Err : goal.returns-in-Err
returns-in-Err c =
    refuses c.args.self.now _ _ _
    (subst (λ l. MayReplay c.args.self.now.plan l c.args.reader (Err c.in-Err.fault)) c.deref.ensures.value c.in-Err.ensures)

pub returns-then-not-begin : goal.returns-then-not-begin
returns-then-not-begin c =
    let may =
    subst (λ l. MayReplay c.args.self.now.plan l c.args.reader (Ok c.in-Ok.topic))
    c.deref.ensures.value c.in-Ok.ensures in
    wants_memory c.args.self.now _ _ _ _ false may.0 c.if-not-begin.ensures (λ r here. here)

pub returns-in-Err-changes : goal.returns-in-Err-changes
returns-in-Err-changes c =
    let may =
    subst (λ l. MayReplay c.args.self.now.plan l c.args.reader (Ok c.in-Ok.topic))
    c.deref.ensures.value c.in-Ok.ensures in
    wants_memory c.args.self.now _ _ _ _ true may.0 c.if-not-begin.ensures (λ r here. here)

pub returns-in-Err-push : goal.returns-in-Err-push
returns-in-Err-push c =
    let may =
    subst (λ l. MayReplay c.args.self.now.plan l c.args.reader (Ok c.in-Ok.topic))
    c.deref.ensures.value c.in-Ok.ensures in
    wants_memory c.args.self.now c.begin.new.self _ _ _ true may.0 c.if-not-begin.ensures
    (λ r here. same_given c.begin.new.self _ r refl c.in-Err-push.ensures.items here)

pub returns-in-Ok-push : goal.returns-in-Ok-push
returns-in-Ok-push c =
    let may =
    subst (λ l. MayReplay c.args.self.now.plan l c.args.reader (Ok c.in-Ok.topic))
    c.deref.ensures.value c.in-Ok.ensures in
    replays c.args.self.now c.begin.new.self _ _ _ c.in-Ok.topic _ may c.if-not-begin.ensures
    c.in-Ok-changes.ensures refl c.in-Ok-push.ensures.items

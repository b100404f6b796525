use Rattle.std.proofs.Common.{subst}
use Rattle.dur_view.specs.History.{Follows}
use Rattle.dur_store.proofs.Entries.{restored-skip}
use Rattle.dur_store.proofs.store.Store.restore.Goals as goal

pub returns-in-Skip-clause-ok : goal.returns-in-Skip-clause-ok
returns-in-Skip-clause-ok c = restored-skip c.skip.result c.args.self.now c.skip.new.self c.args.entry c.in-Skip.moment c.in-Skip.writer c.in-Skip.from c.in-Skip.to c.in-Skip.is c.skip.ensures.ok

pub returns-in-Skip-clause-memory : goal.returns-in-Skip-clause-memory
returns-in-Skip-clause-memory c = λ has h keeps follows. c.skip.ensures.memory h c.in-Skip.from keeps (subst (Follows h) c.in-Skip.is follows)

use Rattle.dur_store.proofs.Wholes.{persistent-kept}
use Rattle.dur_store.proofs.store.Store.view.Goals as goal

pub returns : goal.returns
returns c = persistent-kept c.args.self.now c.in_ok-whole.whole c.persistent.result c.args.moment c.in_ok-whole.ensures c.persistent.ensures

use Rattle.std.proofs.Common.{Err, subst, sym}
use Rattle.dur_hub.specs.declared.event.Event.TheVariants.{TakeView}
use Rattle.dur_hub.specs.Hubs.{Adds}
use Rattle.dur_hub.proofs.Calls.{with_queue, takes_all, takes_none, may_view}
use Rattle.dur_hub.proofs.hub.Hub.take_view.Goals as goal

pub returns-in-Err : goal.returns-in-Err
returns-in-Err c = takes_none c.args.self.now _

pub returns-in-Err-take_all : goal.returns-in-Err-take_all
returns-in-Err-take_all c =
    subst
    (λ q. Adds c.args.self.now (TakeView (Err c.in-Err-take_all.e)) (with_queue c.args.self.now q))
    (sym c.in-Err-take_all.ensures.err) (takes_none c.args.self.now _)

pub returns-in-Ok-take_all : goal.returns-in-Ok-take_all
returns-in-Ok-take_all c =
    takes_all c.args.self.now _ _ _ c.in-Ok-take_all.ensures.ok c.in-Ok.ensures

pub view-requires : goal.view-requires
view-requires c = may_view c.args.self.now c.requires.0 c.requires.1 c.requires.2

use Rattle.std.proofs.Common.{List, sym, subst, arith}
use Rattle.dur_view.specs.History.{Start}
use Rattle.dur_instances.specs.Trimmed.{Trimmed}
use Rattle.dur_store.specs.Parts.{AreTopics}
use Rattle.dur_store.proofs.Lists.{topics-push, length-push}
use Rattle.dur_store.proofs.begin.topics_of.Goals as goal

pub loop-at-preserved : goal.loop-at-preserved
loop-at-preserved c =
    let was = c.loop-at.invariant in
    record {
      count = length-push c.loop-at.topics.items c.push.new.self.items c.in_ok-instances.instances c.loop-at.at was.count c.in-Ok.ensures.items;
      topics = subst (λ (l : List Trimmed). AreTopics l (Start c.args.view.now)) (sym c.in-Ok.ensures.items)
          (topics-push c.loop-at.topics.items c.in_ok-instances.instances (Start c.args.view.now) c.loop-at.at was.count was.topics
          (record { stands = c.in_ok-instances.ensures.stands; early = (let e = c.in_ok-instances.ensures.last in omega arith) }));
    }

use Rattle.std.proofs.Common.{List, map, ap}
use Rattle.std.specs.Prelude.{reverse}
use Rattle.dur_view.specs.declared.data.Held.{Held}
use Rattle.dur_sets.specs.Tells.{takes_effect}
use Rattle.dur_store.proofs.HeldLists.{none-left}
use Rattle.dur_store.proofs.Lists.{brought-all}
use Rattle.dur_store.proofs.events.bring_all.Goals as goal

pub returns-clause-stands : goal.returns-clause-stands
returns-clause-stands c = λ p st.
    brought-all c.loop-member.topic p (map (takes_effect c.args.moment c.args.by c.args.writer) c.args.members.now.items)
    (map (takes_effect c.args.moment c.args.by c.args.writer) (reverse c.loop-member.members.items))
    (ap (λ (l : List Held). map (takes_effect c.args.moment c.args.by c.args.writer) (reverse l)) (c.pop.ensures.none c.in_default.is))
    (c.loop-member.invariant.stands p st)

pub returns-clause-none : goal.returns-clause-none
returns-clause-none c = none-left c.loop-member.members.items c.pop.new.self.items c.pop.result c.pop.ensures.items (c.pop.ensures.none c.in_default.is)

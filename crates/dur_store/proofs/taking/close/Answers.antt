use Rattle.std.proofs.Common.{List, map, subst}
use Rattle.dur_view.specs.declared.data.Held.{Held}
use Rattle.dur_view.specs.Past.{◌▹▹◌}
use Rattle.dur_instances.specs.Stands.{Stands}
use Rattle.dur_sets.specs.Tells.{takes_effect}
use Rattle.dur_store.proofs.Takings.{left-none, closed-all}
use Rattle.dur_store.proofs.taking.close.Goals as goal

pub returns-in-Close-clause-left : goal.returns-in-Close-clause-left
returns-in-Close-clause-left c = λ whole. left-none c.args.before.now c.in-Close.field-0 c.args.writer.now.held.items c.bring_all.new.members.items c.in-Close.is whole c.bring_all.ensures.none

pub returns-in-Close-clause-stands : goal.returns-in-Close-clause-stands
returns-in-Close-clause-stands c = λ whole p st.
    subst (λ (l : List Held). Stands c.bring_all.new.topic (p ▹▹ map (takes_effect c.args.moment c.args.place c.args.writer.now.guid) l))
    (closed-all c.args.before.now c.in-Close.field-0 c.args.writer.now.held.items c.in-Close.is whole) (c.bring_all.ensures.stands p st)

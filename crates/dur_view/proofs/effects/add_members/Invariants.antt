use Rattle.std.proofs.Common.{◌≡◌, ◌++◌, map, take}
use Rattle.dur_view.specs.History.{Effect}
use Rattle.dur_view.proofs.effects.add_members.Given as goal

abbrev pub invariant-loop-member : goal.invariant-loop-member
invariant-loop-member l = l.events ≡ l.initial.events ++ map (λ x. Effect l.moment l.by l.writer x.number x.moment x.sample) (take l.member-index l.members)

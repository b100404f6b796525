use Rattle.std.proofs.Common.{arith, ap, length}
use Rattle.dur_hub.proofs.Replaying.{places_many, changes_told}
use Rattle.dur_hub.proofs.hub.Hub.changes.Goals as goal

pub returns-in-None : goal.returns-in-None
returns-in-None c = λ r here lt late.
    absurd
    (omega (arith, c.in-None.ensures.lookup.3, lt, ap length c.as_slice.ensures, places_many _ _ _ here.places))

pub returns-in_ok-snapshot-in-Some : goal.returns-in_ok-snapshot-in-Some
returns-in_ok-snapshot-in-Some c =
    changes_told c.args.self.now _ _ _ _ _ c.as_slice.ensures c.in-Some.ensures.lookup.1
    c.in_ok-snapshot-in-Some.ensures

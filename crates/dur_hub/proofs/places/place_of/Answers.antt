use Rattle.std.proofs.Common.{arith, subst, sym}
use Rattle.dur_hub.specs.Places.{guids, IsPlace}
use Rattle.dur_hub.proofs.Lookups.{none_beyond}
use Rattle.dur_hub.proofs.places.place_of.Goals as goal

pub returns-then-place-lines-clause-place : goal.returns-then-place-lines-clause-place
returns-then-place-lines-clause-place c =
    λ index. none_beyond _ _ c.in-Some.place (omega arith) (subst (IsPlace (guids c.args.lines.now) c.args.writer) (sym c.in-Some.ensures) (index c.args.writer))

use Rattle.std.proofs.Common.{refl}
use Rattle.dur_store.proofs.events.bring.Goals as goal

pub returns-in-Unregister-clause-stands : goal.returns-in-Unregister-clause-stands
returns-in-Unregister-clause-stands c = λ p st. c.unregister.ensures.stands p c.args.writer c.args.number c.args.arrived c.args.sample c.in-Unregister.is refl st

pub returns-in-Marker-clause-stands : goal.returns-in-Marker-clause-stands
returns-in-Marker-clause-stands c = λ p st. c.marker.ensures.stands p c.args.by c.args.writer c.args.number c.args.arrived c.args.sample c.in-Marker.is st

use Rattle.std.proofs.Common.{ap, Some}
use Rattle.rtps_discovery.proofs.Noting.{told_same, told_nothing}
use Rattle.rtps_discovery.proofs.reading.told.Goals as goal

pub returns-in-Some-clause-all : goal.returns-in-Some-clause-all
returns-in-Some-clause-all c t is =
    ap Some (told_same c.args.plan.now c.args.moment c.args.fact.now c.in-Data.writer c.in-Data.reader c.in-Data.number c.in-Data.raw c.read_announcement.result c.in-Some.what c.in-Data.is c.read_announcement.ensures.all c.in-Some.is t is)

pub returns-in-None-clause-all : goal.returns-in-None-clause-all
returns-in-None-clause-all c t is =
    absurd (told_nothing c.args.plan.now c.args.moment c.args.fact.now c.in-Data.writer c.in-Data.reader c.in-Data.number c.in-Data.raw c.read_announcement.result c.in-Data.is c.read_announcement.ensures.all c.in-None.is t is)

use Rattle.rel_writer.proofs.Picking.{written}
use Rattle.rel_writer.proofs.session.Session.beat.Goals as goal

pub returns-clause-writes : goal.returns-clause-writes
returns-clause-writes c = written _ _ _ _ _ c.write_heartbeat.ensures.written

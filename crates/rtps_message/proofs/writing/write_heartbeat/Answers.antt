use Rattle.std.proofs.Common.{arith}
use Rattle.rtps_message.proofs.Back.{heartbeat_back}
use Rattle.rtps_message.proofs.Places.{heartbeat_fits}
use Rattle.rtps_message.proofs.writing.write_heartbeat.Goals as goal

pub write_message-requires-clause-texts : goal.write_message-requires-clause-texts
write_message-requires-clause-texts c =
    rw (c.prefix.ensures, c.entity.ensures, c.one.ensures, c.get.ensures.value) (heartbeat_fits c.args.from c.args.to c.args.writer c.args.last c.args.count c.prefix_size.ensures c.guid_size.ensures c.entity_size.ensures).0

pub write_message-requires-clause-room : goal.write_message-requires-clause-room
write_message-requires-clause-room c =
    let fits = heartbeat_fits c.args.from c.args.to c.args.writer c.args.last c.args.count c.prefix_size.ensures c.guid_size.ensures c.entity_size.ensures in
    rw (c.prefix.ensures, c.entity.ensures, c.one.ensures, c.get.ensures.value) (omega (arith, fits.1, c.requires))

pub returns-clause-back : goal.returns-clause-back
returns-clause-back c =
    let back = rw (c.prefix.ensures, c.entity.ensures, c.one.ensures, c.get.ensures.value) at c.write_message.ensures.back in
    heartbeat_back c.args.from c.args.to c.args.writer _ c.args.last c.args.count (omega (arith, c.get.ensures.value, c.get.ensures.range.1)) back

use Rattle.std.proofs.Common.{arith}
use Rattle.rtps_message.proofs.Back.{acknack_back}
use Rattle.rtps_message.proofs.Places.{acknack_fits}
use Rattle.rtps_message.proofs.writing.write_acknack.Goals as goal

pub write_message-requires-clause-texts : goal.write_message-requires-clause-texts
write_message-requires-clause-texts c =
    rw (c.prefix.ensures, c.entity.ensures, c.entity-2.ensures) (acknack_fits c.args.from c.args.to c.args.set.now c.args.is_final c.args.count c.guid_size.ensures c.guid_size-2.ensures c.set_size.ensures).0

pub write_message-requires-clause-room : goal.write_message-requires-clause-room
write_message-requires-clause-room c =
    let fits = acknack_fits c.args.from c.args.to c.args.set.now c.args.is_final c.args.count c.guid_size.ensures c.guid_size-2.ensures c.set_size.ensures in
    rw (c.prefix.ensures, c.prefix-2.ensures, c.entity.ensures, c.entity-2.ensures) (omega (arith, fits.1, c.requires))

pub returns-clause-back : goal.returns-clause-back
returns-clause-back c =
    let back = rw (c.prefix.ensures, c.prefix-2.ensures, c.entity.ensures, c.entity-2.ensures) at c.write_message.ensures.back in
    acknack_back c.args.from c.args.to _ c.args.set.now c.args.is_final c.args.count back

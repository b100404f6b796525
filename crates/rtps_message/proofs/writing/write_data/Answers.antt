use Rattle.std.proofs.Common.{arith, ◌≡◌, ◌∙◌, ap, length}
use Rattle.rtps_message.proofs.Back.{sample_back}
use Rattle.rtps_message.proofs.Places.{sample_fits}
use Rattle.rtps_message.proofs.writing.write_data.Goals as goal

pub write_message-requires-clause-texts : goal.write_message-requires-clause-texts
write_message-requires-clause-texts c =
    let d = c.sample_data.ensures in
    let writer : length c.sample_data.result.writer ≡ 4 = ap length d.writer_is ∙ c.entity_size.ensures in
    rw c.prefix.ensures
    (sample_fits c.args.from c.args.to c.args.sample.now c.args.keyed c.sample_data.result c.prefix_size.ensures c.guid_size.ensures writer c.key_size.ensures c.original_size.ensures c.requires.good d.reader d.inline d.payload).0

pub write_message-requires-clause-room : goal.write_message-requires-clause-room
write_message-requires-clause-room c =
    let d = c.sample_data.ensures in
    let writer : length c.sample_data.result.writer ≡ 4 = ap length d.writer_is ∙ c.entity_size.ensures in
    let fits =
    sample_fits c.args.from c.args.to c.args.sample.now c.args.keyed c.sample_data.result c.prefix_size.ensures c.guid_size.ensures writer c.key_size.ensures c.original_size.ensures c.requires.good d.reader d.inline d.payload in
    rw c.prefix.ensures (omega (arith, fits.1, c.requires.room))

pub returns-clause-written : goal.returns-clause-written
returns-clause-written c = record { d = c.sample_data.result; is = c.sample_data.ensures; written = rw (← c.prefix.ensures) c.write_message.ensures.written }

pub returns-clause-back : goal.returns-clause-back
returns-clause-back c small =
    let back = rw c.prefix.ensures at c.write_message.ensures.back in
    sample_back c.args.from c.args.to c.args.writer _ c.args.number c.args.sample.now c.args.keyed c.sample_data.result small c.requires.good c.sample_data.ensures back

use Rattle.std.proofs.Common.{arith}
use Rattle.dur_base.specs.Fields.{octets}
use Rattle.rtps_submsg.specs.Writing.{sub_text}
use Rattle.rtps_message.specs.Written.{message}
use Rattle.rtps_message.proofs.tests.a_message_is_written.Goals as goal

pub write_message-len-requires-clause-room : goal.write_message-len-requires-clause-room
unfolding message sub_text octets
write_message-len-requires-clause-room g c = omega arith

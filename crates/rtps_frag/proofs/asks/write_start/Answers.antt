use Rattle.std.proofs.Common.{◌∙◌, arith}
use Rattle.rtps_frag.proofs.Words.{start_fits}
use Rattle.rtps_frag.proofs.asks.write_start.Goals as goal

pub write_message-requires-clause-texts : goal.write_message-requires-clause-texts
write_message-requires-clause-texts c = (start_fits _ _ c.prefix_size.ensures c.prefix_size-2.ensures).0

pub write_message-requires-clause-room : goal.write_message-requires-clause-room
write_message-requires-clause-room c = let fits = start_fits _ _ c.prefix_size.ensures c.prefix_size-2.ensures in omega (arith, fits.1, c.requires)

pub returns-clause-short : goal.returns-clause-short
returns-clause-short c = let fits = start_fits _ _ c.prefix_size.ensures c.prefix_size-2.ensures in c.write_message.ensures.written.len ∙ fits.1

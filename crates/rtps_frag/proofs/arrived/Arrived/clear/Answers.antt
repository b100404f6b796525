use Rattle.std.proofs.Common.{arith}
use Rattle.rtps_frag.proofs.Marks.{cleared}
use Rattle.rtps_frag.proofs.arrived.Arrived.clear.Goals as goal

pub returns : goal.returns
returns c = cleared c.self.inside.words.items _ c.div_ceil.result c.args.count c.clear_words.ensures.after (omega (arith, c.div_ceil.ensures))

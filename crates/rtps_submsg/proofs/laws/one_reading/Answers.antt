use Rattle.rtps_submsg.proofs.Unique.{reads_once}
use Rattle.rtps_submsg.proofs.laws.one_reading.Goals as goal

pub returns : goal.returns
returns c = reads_once _ c.read_sub.result c.read_sub.ensures.ok c.read_sub.ensures.err

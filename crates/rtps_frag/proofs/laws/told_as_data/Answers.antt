use Rattle.rtps_frag.proofs.Whole.{told_as_data as as_data}
use Rattle.rtps_frag.proofs.laws.told_as_data.Goals as goal

pub returns : goal.returns
returns c = as_data

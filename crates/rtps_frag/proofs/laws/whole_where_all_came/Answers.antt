use Rattle.rtps_frag.proofs.Whole.{whole_where_all_came as all_came}
use Rattle.rtps_frag.proofs.laws.whole_where_all_came.Goals as goal

pub returns : goal.returns
returns c = all_came

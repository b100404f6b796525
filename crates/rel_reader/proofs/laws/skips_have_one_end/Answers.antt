use Rattle.rel_reader.proofs.OneSkip.{one_end}
use Rattle.rel_reader.proofs.laws.skips_have_one_end.Goals as goal

pub returns : goal.returns
returns c = one_end

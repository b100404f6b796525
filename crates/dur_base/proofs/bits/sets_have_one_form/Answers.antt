use Rattle.dur_base.proofs.SameSets.{one_form}
use Rattle.dur_base.proofs.bits.sets_have_one_form.Goals as goal

pub returns : goal.returns
returns c = one_form

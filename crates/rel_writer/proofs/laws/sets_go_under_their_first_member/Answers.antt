use Rattle.rel_writer.proofs.FirstMembers.{go_under_their_first}
use Rattle.rel_writer.proofs.laws.sets_go_under_their_first_member.Goals as goal

pub returns : goal.returns
returns c = go_under_their_first

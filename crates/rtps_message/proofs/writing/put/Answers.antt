use Rattle.rtps_message.proofs.Places.{read_back}
use Rattle.rtps_message.proofs.writing.put.Goals as goal

pub returns-in-Ok-clause-back : goal.returns-in-Ok-clause-back
returns-in-Ok-clause-back c = read_back c.args.sub.now _ _ c.in-Ok.len c.in-Ok.ensures.text c.in-Ok.ensures.ok c.in-Ok.ensures.back

use Rattle.std.proofs.Common.{not, sym, ap, ◌∙◌}
use Rattle.dur_instances.proofs.RegLists.{nobody-at}
use Rattle.dur_instances.proofs.registered.is_nobody.Goals as goal

pub returns : goal.returns
returns c = ap not c.is_of_key.ensures ∙ sym (nobody-at c.args.key c.args.list.now c.place_of-at.result c.requires c.place_of-at.ensures.before c.place_of-at.ensures.after)

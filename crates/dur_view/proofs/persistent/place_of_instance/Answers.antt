use Rattle.std.proofs.Common.{◌∙◌}
use Rattle.dur_view.proofs.persistent.place_of_instance.Goals as goal

pub returns : goal.returns
returns c = c.place.ensures ∙ c.requires.place c.args.place

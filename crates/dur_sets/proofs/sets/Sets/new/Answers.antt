use Rattle.std.proofs.Common.{List, map, ap, ◌∙◌}
use Rattle.dur_view.specs.declared.data.KeptWriter.{KeptWriter}
use Rattle.dur_sets.specs.Open.{opened}
use Rattle.dur_sets.proofs.Places.{open-start}
use Rattle.dur_sets.proofs.sets.Sets.new.Goals as goal

pub returns : goal.returns
returns c =
    open-start c.args.view.now c.in_ok-sets.sets.items c.requires
    (c.in_ok-sets.ensures ∙ ap (λ (l : List KeptWriter). map (λ line. opened line.held) l) c.as_slice.ensures)

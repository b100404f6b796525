use Rattle.rtps_frag.proofs.Places.{rotated}
use Rattle.rtps_frag.proofs.joiner.rotate.Goals as goal

pub returns-clause-after : goal.returns-clause-after
returns-clause-after c = rw (c.split_at_mut-rest.ensures.front, c.rotate_left.ensures.after, c.split_at_mut-rest.ensures.back) (rotated c.args.slots.now c.args.i c.requires)
